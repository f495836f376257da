pub mod HexLaws
pub mod WordLaws
pub mod DigitLaws
pub mod KindLaws
pub mod FrameLaws
pub mod LineLaws
pub mod WriteLaws
pub mod FaultLaws
