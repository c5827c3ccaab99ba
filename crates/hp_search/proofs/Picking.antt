-- Some choices of a path, in its order: the path being honest, so are they.
use Rattle.std.proofs.Common.{◌≡◌, ◌≤◌, ◌<◌, ◌+◌, ℕ, inl, inr, refl, sym, subst, arith, List, [], ◌∷◌, ◌++◌, length, take, get_or, Result, Ok, Err, IfErr}
use Rattle.std.specs.List.{All}
use Rattle.std.proofs.lemmas.List.{take_more}
use Rattle.std.proofs.lemmas.List.Elements.{All-cons, All-head, All-nil, All-tail}
use Rattle.hp_tree.specs.declared.problem.Sort.{Sort}
use Rattle.hp_lit.specs.declared.line.Line.{Line}
use Rattle.hp_lit.specs.declared.literal.Lit.{Lit}
use Rattle.hp_lit.specs.declared.proof.Choice.{Choice}
use Rattle.hp_lit.specs.Truth.{IsTrueAt}
use Rattle.hp_leaf.specs.Path.{HonestFrom, IsHonestPath}
use Rattle.hp_leaf.specs.Tree.{IsOpenAt, Place, lit_at, place_lits}
use Rattle.hp_search.specs.declared.looking.Seen.{Seen}
use Rattle.hp_search.specs.declared.searching.SearchErr.{SearchErr}
use Rattle.hp_search.specs.Search.{IsCauseAt, IsCauseWithin, IsPartOf}

pub part_whole : (path : Place) → IsPartOf path path
part_whole [] = tt
part_whole (c ∷ cs) = inl (refl, part_whole cs)

pub part_skip : (part path : Place) (c : Choice) → IsPartOf part path → IsPartOf part (path ++ c ∷ [])
part_skip [] path c h = tt
part_skip (x ∷ xs) [] c h = absurd h
part_skip (x ∷ xs) (y ∷ ys) c (inl h) = inl (h.0, part_skip xs ys c h.1)
part_skip (x ∷ xs) (y ∷ ys) c (inr h) = inr (part_skip (x ∷ xs) ys c h)

pub part_add : (part path : Place) (c : Choice) → IsPartOf part path → IsPartOf (part ++ c ∷ []) (path ++ c ∷ [])
part_add [] [] c h = inl (refl, tt)
part_add [] (y ∷ ys) c h = inr (part_add [] ys c tt)
part_add (x ∷ xs) [] c h = absurd h
part_add (x ∷ xs) (y ∷ ys) c (inl h) = inl (h.0, part_add xs ys c h.1)
part_add (x ∷ xs) (y ∷ ys) c (inr h) = inr (part_add (x ∷ xs) ys c h)

-- one choice of the path more
pub part_taken : (part more path : Place) (i : ℕ) (d : Choice) → i < length path → more ≡ part ++ get_or path i d ∷ [] → IsPartOf part (take i path) → IsPartOf more (take (i + 1) path)
part_taken part more path i d l m h =
    subst (IsPartOf more) (sym (take_more path i d l)) (subst (λ q. IsPartOf q (take i path ++ get_or path i d ∷ [])) (sym m) (part_add part (take i path) (get_or path i d) h))

pub part_left : (part more path : Place) (i : ℕ) (d : Choice) → i < length path → more ≡ part → IsPartOf part (take i path) → IsPartOf more (take (i + 1) path)
part_left part more path i d l m h =
    subst (IsPartOf more) (sym (take_more path i d l)) (subst (λ q. IsPartOf q (take i path ++ get_or path i d ∷ [])) (sym m) (part_skip part (take i path) (get_or path i d) h))

pub part_short : (part path : Place) → IsPartOf part path → length part ≤ length path
part_short [] path h = omega arith
part_short (x ∷ xs) [] h = absurd h
part_short (x ∷ xs) (y ∷ ys) (inl h) = omega (arith, part_short xs ys h.1)
part_short (x ∷ xs) (y ∷ ys) (inr h) = omega (arith, part_short (x ∷ xs) ys h)

module _ (ss : List Sort) (lines : List Line) where
  part_all : (P : Lit → Type 0) (part path : Place) → IsPartOf part path → All P (place_lits lines path) → All P (place_lits lines part)
  part_all P [] path h a = All-nil P
  part_all P (x ∷ xs) [] h a = absurd h
  part_all P (x ∷ xs) (y ∷ ys) (inl h) a =
      All-cons P (lit_at lines x) (place_lits lines xs) (subst (λ c. P (lit_at lines c)) (sym h.0) (All-head P (lit_at lines y) (place_lits lines ys) a)) (part_all P xs ys h.1 (All-tail P (lit_at lines y) (place_lits lines ys) a))
  part_all P (x ∷ xs) (y ∷ ys) (inr h) a = part_all P (x ∷ xs) ys h (All-tail P (lit_at lines y) (place_lits lines ys) a)

  part_open : (part path : Place) (n : ℕ) → IsPartOf part path → IsOpenAt ss lines path n → IsOpenAt ss lines part n
  part_open part path n h o = record { values = o.values; sorted = o.sorted; holds = part_all (IsTrueAt o.values) part path h o.holds; fails = o.fails }

  -- fewer choices above ask less of the values that leave a line false
  part_honest_from : (above all part path : Place) → IsPartOf above all → IsPartOf part path → HonestFrom ss lines all path → HonestFrom ss lines above part
  part_honest_from above all [] path g h k = tt
  part_honest_from above all (x ∷ xs) [] g h k = absurd h
  part_honest_from above all (x ∷ xs) (y ∷ ys) g (inl h) k =
      subst (λ c. HonestFrom ss lines above (c ∷ xs)) (sym h.0)
      (k.0, k.1, part_open above all y.line g k.2, part_honest_from (above ++ y ∷ []) (all ++ y ∷ []) xs ys (part_add above all y g) h.1 k.3)
  part_honest_from above all (x ∷ xs) (y ∷ ys) g (inr h) k = part_honest_from above (all ++ y ∷ []) (x ∷ xs) ys (part_skip above all y g) h k.3

  pub part_honest : (part path : Place) → IsPartOf part path → IsHonestPath ss lines path → IsHonestPath ss lines part
  part_honest part path h k = part_honest_from [] [] part path tt h k

-- a strain over the whole path is one over a part of it
pub caused_within : (lines : List Line) (path : Place) (r : Result Seen SearchErr) → IfErr r (IsCauseAt lines path) → IfErr r (IsCauseWithin lines path)
caused_within lines path (Ok seen) h = tt
caused_within lines path (Err e) h = record { part = path; of = part_whole path; cause = h }
