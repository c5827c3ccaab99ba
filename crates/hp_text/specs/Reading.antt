-- A text that is read from its beginning, and the place that the reading has come to.
use Rattle.std.specs.Prelude.{ℕ, List}

pub record Reading : Type 0 where
  pub bytes : List ℕ
  pub place : ℕ
