-- The pairs of applications at which a monotone function's clause has instances.
use Rattle.std.specs.Prelude.{ℕ, List, [], ◌∷◌, ◌++◌, Bool, map, nat_eq, pos, if◌then◌else◌, Option, Some, None, Ok, slice_get}
use Rattle.std.specs.List.{Contains}
use Rattle.hp_math.specs.Rational.{whole}
use Rattle.hp_lit.specs.declared.line.Arg.{Arg}
use Rattle.hp_lit.specs.declared.line.Arg.TheVariants.{Number, Named}
use Rattle.hp_defs.specs.Names.{NameList}
use Rattle.hp_lit.specs.declared.line.Def.{Def}
use Rattle.hp_base.specs.Congruence.{Point, point_of}
use Rattle.hp_base.specs.Making.{Maker, in_turn}
use Rattle.hp_norm.specs.declared.flat.FlatClause.{FlatClause}
use Rattle.hp_instance.specs.declared.tuple.Tuple.{Tuple}
use Rattle.hp_instance.specs.Instances.{instance}
use Rattle.hp_instance.specs.Laws.{TupleFits}
use Rattle.hp_class.specs.Group.{Planned}
use Rattle.hp_class.specs.Places.{points_at}
use Rattle.hp_class.specs.Points.{points}

-- ---- pairs
-- an application with each other one, in their order
abbrev pub with_others : Point → List Point → List (Point × Point)
with_others p [] = []
with_others p (q ∷ qs) = if nat_eq p.name.0 q.name.0 then with_others p qs else (p, q) ∷ with_others p qs

-- each of these with each other one of all
abbrev pub ordered_from : List Point → List Point → List (Point × Point)
ordered_from [] all = []
ordered_from (p ∷ ps) all = with_others p all ++ ordered_from ps all

-- each application with each other one, in lexicographic order
abbrev pub ordered_pairs : List Point → List (Point × Point)
ordered_pairs ps = ordered_from ps ps

-- ---- tuples
abbrev pub first_arg : List Arg → Arg
first_arg [] = Number (whole (pos 0))
first_arg (x ∷ xs) = x

-- the argument of the first application for the variable that the guard puts below, that of the second for the other
abbrev pub pair_args : Bool → Arg → Arg → List Arg
pair_args first_lower lower upper = (if first_lower then lower else upper) ∷ (if first_lower then upper else lower) ∷ []

-- the names of both are shown in this order
abbrev pub pair_tuple : Bool → Point × Point → Tuple
pair_tuple first_lower pair = record {
  args = pair_args first_lower (first_arg pair.0.args) (first_arg pair.1.args);
  shown = Named pair.0.name ∷ Named pair.1.name ∷ [];
}

-- ---- the plan
abbrev pub pairs_plan : ℕ → Bool → FlatClause → NameList → List Planned
pairs_plan func first_lower clause names = record { clause = clause; tuples = map (pair_tuple first_lower) (ordered_pairs (points func names.definitions)) } ∷ []

-- ---- its instances, pair by pair
abbrev pub pair_instance : FlatClause → Bool → Point × Point → Maker (Unit {0})
pair_instance c first_lower pair = instance c (pair_tuple first_lower pair)

-- arguments of each two of these applications fit the clause
abbrev pub PairsFit : NameList → FlatClause → Bool → List Point → Type 0
PairsFit names c first_lower ps = (p q : Point) → Contains ps p → Contains ps q → TupleFits names c (pair_tuple first_lower (p, q)).args

-- those of the application at a place with each other one at these places
abbrev pub pairs_below : Option Def → List Point → List (Point × Point)
pairs_below None qs = []
pairs_below (Some d) qs = with_others (point_of d) qs

abbrev pub lines_below : FlatClause → Bool → ℕ → List ℕ → Maker (Unit {0})
lines_below c first_lower lower ks g =
    in_turn (pair_instance c first_lower) (pairs_below (slice_get g.names.definitions lower) (points_at g.names.definitions ks)) g

-- the instance of the applications at two places
abbrev pub pair_between : FlatClause → Bool → Option Def → Option Def → Maker (Unit {0})
pair_between c first_lower None e g = Ok (tt, g)
pair_between c first_lower (Some d) None g = Ok (tt, g)
pair_between c first_lower (Some d) (Some e) g = pair_instance c first_lower (point_of d, point_of e) g

abbrev pub pair_at : FlatClause → Bool → ℕ → ℕ → Maker (Unit {0})
pair_at c first_lower lower upper g = pair_between c first_lower (slice_get g.names.definitions lower) (slice_get g.names.definitions upper) g
