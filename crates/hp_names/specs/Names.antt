-- Names that are numbered in the order of their first occurrence.
use Rattle.std.specs.Prelude.{◌≡◌, ℕ, ◌++◌, List, [], ◌∷◌, Bool, true, false}
use Rattle.std.specs.Str.{bytes_eq}
use Rattle.std.specs.List.{list_any}

-- a name is the list of its bytes
abbrev pub Name : Type 0
Name = List ℕ

-- whether the name is one of these
abbrev pub is_among : Name → List Name → Bool
is_among name names = list_any (bytes_eq name) names

-- after a name was added: last where it was not there, and else nothing changed
abbrev pub Added : List Name → Name → List Name → Bool → Type 0
Added old name new true = (is_among name old ≡ false) × (new ≡ old ++ name ∷ [])
Added old name new false = (is_among name old ≡ true) × (new ≡ old)

-- no name is there twice
abbrev pub AreDistinct : List Name → Type 0
AreDistinct [] = Unit {0}
AreDistinct (name ∷ names) = (is_among name names ≡ false) × AreDistinct names
