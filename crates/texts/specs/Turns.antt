-- Frames that may make up a text.
use Rattle.std.specs.Prelude.{◌≡◌, List, [], ◌∷◌, ◌++◌, Ok}
use Rattle.frames.specs.declared.frame.Frame.{Frame}
use Rattle.texts.specs.declared.seen.TextKind.{TextKind}
use Rattle.texts.specs.Reading.{admitted}

-- each frame is in its place behind those before it, and an end frame tells their number
abbrev pub InTurn : TextKind → List Frame → List Frame → Type 0
InTurn kind before [] = Unit {0}
InTurn kind before (f ∷ fs) =
    (admitted kind before f ≡ Ok tt) × InTurn kind (before ++ f ∷ []) fs
