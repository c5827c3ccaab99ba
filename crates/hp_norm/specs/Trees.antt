-- Terms as trees: what a term gives with what its parts give, when two terms are the same, and the applications in a term.
use Rattle.std.specs.Prelude.{◌≡◌, ◌↔◌, List, [], ◌∷◌, ◌++◌, Bool, true, false, ◌&&◌, if◌then◌else◌}
use Rattle.std.specs.List.{list_any}
use Rattle.std.specs.Str.{bytes_eq}
use Rattle.hp_math.specs.Rational.{eq_ℚ}
use Rattle.hp_tree.specs.declared.term.Term.{Term, fold-Term, map-Term, out-Term, roll-Term}
use Rattle.hp_tree.specs.declared.term.Term.TheOpen.{Term-F}

-- ---- recursion
-- a term with what it gives
pub record Seen (A : Type 0) : Type 0 where
  pub term : Term
  pub value : A

abbrev pub seen_step : {A : Type 0} → (Term → Term-F A → A) → Term-F (Seen A) → Seen A
seen_step {A} step z =
    let term = roll-Term (map-Term (Seen A) Term (λ s. s.term) z) in
    record { term = term; value = step term (map-Term (Seen A) A (λ s. s.value) z) }

abbrev pub seen : {A : Type 0} → (Term → Term-F A → A) → Term → Seen A
seen {A} step = fold-Term (Seen A) (seen_step step)

-- what a term gives, by a step that knows the term and what its parts give
abbrev pub by_term : {A : Type 0} → (Term → Term-F A → A) → Term → A
by_term step term = (seen step term).value

-- ---- equal trees
abbrev pub all_same : List (Term → Bool) → List Term → Bool
all_same [] [] = true
all_same [] (term ∷ terms) = false
all_same (same ∷ sames) [] = false
all_same (same ∷ sames) (term ∷ terms) = same term && all_same sames terms

-- two layers of one kind with the same words and numbers, whose parts are the same
abbrev pub same_layer : Term-F (Term → Bool) → Term-F Term → Bool
same_layer (Term-F.Number q) (Term-F.Number r) = eq_ℚ q r
same_layer Term-F.Null Term-F.Null = true
same_layer (Term-F.Name word) (Term-F.Name other) = bytes_eq word other
same_layer (Term-F.Apply func args) (Term-F.Apply other terms) = bytes_eq func other && all_same args terms
same_layer (Term-F.Add a b) (Term-F.Add s t) = a s && b t
same_layer (Term-F.Sub a b) (Term-F.Sub s t) = a s && b t
same_layer (Term-F.Neg a) (Term-F.Neg s) = a s
same_layer (Term-F.Scale q a) (Term-F.Scale r s) = eq_ℚ q r && a s
same_layer _ _ = false

abbrev pub same_step : Term-F (Term → Bool) → Term → Bool
same_step layer term = same_layer layer (out-Term term)

-- two terms are the same tree
abbrev pub same_term : Term → Term → Bool
same_term = fold-Term (Term → Bool) same_step

-- the test tells equal terms
abbrev pub SameTermsAreEqual : Type 0
SameTermsAreEqual = (s t : Term) → (same_term s t ≡ true) ↔ (s ≡ t)

-- ---- applications
-- behind those that are there, unless it is one of them
abbrev pub noted : Term → List Term → List Term
noted term apps = if list_any (same_term term) apps then apps else apps ++ term ∷ []

abbrev pub one_by_one : List (List Term → List Term) → List Term → List Term
one_by_one [] apps = apps
one_by_one (gather ∷ gathers) apps = one_by_one gathers (gather apps)

abbrev pub gather_step : Term → Term-F (List Term → List Term) → List Term → List Term
gather_step term (Term-F.Number q) apps = apps
gather_step term Term-F.Null apps = apps
gather_step term (Term-F.Name word) apps = apps
gather_step term (Term-F.Apply func args) apps = noted term (one_by_one args apps)
gather_step term (Term-F.Add a b) apps = b (a apps)
gather_step term (Term-F.Sub a b) apps = b (a apps)
gather_step term (Term-F.Neg a) apps = a apps
gather_step term (Term-F.Scale q a) apps = a apps

-- the different applications in a term behind those that are there, inner before outer
abbrev pub gathered : Term → List Term → List Term
gathered = by_term gather_step
