use Rattle.stations.proofs.Worked.{all_listed, last_broad}
use Rattle.stations.proofs.stations_stand.Goals as goal

pub returns-clause-listed : goal.returns-clause-listed
returns-clause-listed c = all_listed

pub returns-clause-broad : goal.returns-clause-broad
returns-clause-broad c = last_broad
