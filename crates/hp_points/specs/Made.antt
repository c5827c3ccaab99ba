-- The class of a function at its place in the order of declarations, as it is made.
use Rattle.std.specs.Prelude.{ℕ, [], ◌∷◌, length}
use Rattle.hp_defs.specs.declared.names.Signature.{Signature}
use Rattle.hp_norm.specs.declared.flat.FlatClause.{FlatClause}
use Rattle.hp_shapes.specs.declared.shape.Form.{Form}
use Rattle.hp_points.specs.declared.free.Free.{Free}
use Rattle.hp_points.specs.declared.monotone.Monotone.{Monotone}

-- a free function with this signature
abbrev pub free_at : ℕ → Signature → Free
free_at func s = record { func = func; word = s.name; args = length s.args; own = func ∷ [] }

-- a monotone function with its clause and the form of that
abbrev pub monotone_at : ℕ → Signature → FlatClause → Form → Monotone
monotone_at func s clause form = record { func = func; word = s.name; clause = clause; form = form; own = func ∷ [] }
