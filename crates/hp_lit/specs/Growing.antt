-- Lists that grow at their end.
use Rattle.std.specs.Prelude.{◌≡◌, List, ◌++◌}

-- what was there is a prefix of what is there now
pub record Begins {A : Type 0} (old new : List A) : Type 0 where
  pub more : List A
  pub all : new ≡ old ++ more
