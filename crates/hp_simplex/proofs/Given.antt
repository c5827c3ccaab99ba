-- Values of all names that occur in literals are values of the names of each literal.
use Rattle.std.proofs.Common.{◌≡◌, ℕ, zero, suc, ◌+◌, ◌<◌, arith, List, [], ◌∷◌, length, get_or, take}
use Rattle.std.proofs.lemmas.List.Elements.{All-more}
use Rattle.hp_lit.specs.declared.literal.NumLit.{NumLit}
use Rattle.hp_lit.specs.declared.valuation.NameValue.{NameValue}
use Rattle.hp_lit.specs.Truth.{NumIsTrue}
use Rattle.hp_lit.specs.Fit.{part_names}
use Rattle.hp_descent.specs.Columns.{mentioned, columns}
use Rattle.hp_descent.specs.Values.{IsTrueAmong}
use Rattle.hp_descent.proofs.Rising.{among_names}
use Rattle.hp_descent.proofs.Truth.{AllAmong, among_split, all_in}
use Rattle.hp_descent.proofs.Lookup.{names_of, given_parts}
use Rattle.hp_simplex.specs.Checks.{MeetAll}

-- the names of one of the literals
one_of : (ns : List ℕ) (lits : List NumLit) (i : ℕ) (d : NumLit) → AllAmong ns (mentioned lits) → i < length lits → AllAmong ns (part_names (get_or lits i d).parts)
one_of ns [] i d h l = absurd (omega arith)
one_of ns (x ∷ xs) zero d h l = (among_split ns (part_names x.parts) (mentioned xs) h).0
one_of ns (x ∷ xs) (suc i) d h l = one_of ns xs i d (among_split ns (part_names x.parts) (mentioned xs) h).1 (omega arith)

-- one literal more is true wherever the names have these values
pub more_are_true : (values : List NameValue) (lits : List NumLit) (i : ℕ) (d : NumLit) → names_of values ≡ columns lits → i < length lits → MeetAll values (take i lits)
    → IsTrueAmong values (get_or lits i d) → MeetAll values (take (i + 1) lits)
more_are_true values lits i d named l before h v agrees =
    let a : AllAmong (columns lits) (mentioned lits) = all_in (columns lits) (mentioned lits) (among_names (mentioned lits) []) in
    let b : AllAmong (names_of values) (part_names (get_or lits i d).parts) = rw named (one_of (columns lits) lits i d a l) in
    All-more (NumIsTrue v) lits i d l (before v agrees) (h v (given_parts v values (get_or lits i d).parts agrees b))
