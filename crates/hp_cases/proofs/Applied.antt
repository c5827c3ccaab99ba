-- Terms by the applications in them.
use Rattle.std.proofs.Common.{◌≡◌, ◌∙◌, List, [], ◌∷◌, ◌++◌, map, Bool, true, refl, sym, subst}
use Rattle.std.specs.List.{All, list_all}
use Rattle.std.proofs.lemmas.Bool.{and_from}
use Rattle.std.proofs.lemmas.List.Elements.{All-cons, All-head, All-nil, All-tail}
use Rattle.hp_math.specs.Rational.{ℚ}
use Rattle.hp_tree.specs.declared.term.Term.{Term, fold-roll-Term, ind-Term, map-Term, roll-Term}
use Rattle.hp_tree.specs.declared.term.Term.TheOpen.{Term-F}
use Rattle.hp_tree.specs.declared.problem.Atom.{Atom}
use Rattle.hp_tree.specs.Value.{Word}
use Rattle.hp_terms.specs.Occurring.{joined}
use Rattle.hp_local.specs.Applied.{applies_only, applies_step, atom_applies}
use Rattle.hp_flatten.specs.declared.application.Application.{Application}
use Rattle.hp_flatten.specs.Applications.{applications, atoms_applications}
use Rattle.hp_flatten.proofs.HoldsTerms.{applications_apply, applications_at, back, front}

-- ---- lists
pub both_none : {X : Type 0} (xs ys : List X) → xs ++ ys ≡ [] → (xs ≡ []) × (ys ≡ [])
both_none [] ys e = (refl, e)
both_none (x ∷ xs) ys e = absurd (cc)

-- whatever is asked of applications, a term without one has it
pub none_lower : (Q : Application → Type 0) (t : Term) → applications t ≡ [] → All Q (applications t)
none_lower Q t e = subst (All Q) (sym e) (All-nil Q)

-- ---- induction
-- what holds of numbers, null and names, of such an application where it holds of its arguments, and of sums, differences, negations
-- and multiples where it holds of their parts
pub record IsKept (Q : Application → Type 0) (P : Term → Type 0) : Type 0 where
  pub number : (q : ℚ) → P (roll-Term (Term-F.Number q))
  pub null : P (roll-Term Term-F.Null)
  pub name : (word : Word) → P (roll-Term (Term-F.Name word))
  pub apply : (func : Word) (args : List Term) → Q (record { func = func; args = args }) → All P args → P (roll-Term (Term-F.Apply func args))
  pub add : (a b : Term) → P a → P b → P (roll-Term (Term-F.Add a b))
  pub subtract : (a b : Term) → P a → P b → P (roll-Term (Term-F.Sub a b))
  pub neg : (a : Term) → P a → P (roll-Term (Term-F.Neg a))
  pub scale : (q : ℚ) (a : Term) → P a → P (roll-Term (Term-F.Scale q a))

module _ (Q : Application → Type 0) (P : Term → Type 0) (k : IsKept Q P) where
  abbrev Holds : Term → Type 0
  Holds t = All Q (applications t) → P t

  abbrev Held : Type 0
  Held = (t : Term) × Holds t

  both : (a b : Held) (wrap : Term-F Term) → applications (roll-Term wrap) ≡ applications a.0 ++ applications b.0 → All Q (applications (roll-Term wrap)) → P a.0 × P b.0
  both a b wrap is h = (let g = subst (All Q) is h in (a.1 (front Q (applications a.0) (applications b.0) g), b.1 (back Q (applications a.0) (applications b.0) g)))

  all_held : (es : List Held) → All Q (joined (map applications (map (λ (e : Held). e.0) es))) → All P (map (λ (e : Held). e.0) es)
  all_held [] h = All-nil P
  all_held (e ∷ es) h =
      let rest = joined (map applications (map (λ (d : Held). d.0) es)) in
      All-cons P e.0 (map (λ (d : Held). d.0) es) (e.1 (front Q (applications e.0) rest h)) (all_held es (back Q (applications e.0) rest h))

  layer : (y : Term-F Held) → Holds (roll-Term (map-Term Held Term (λ e. e.0) y))
  layer (Term-F.Number q) h = k.number q
  layer Term-F.Null h = k.null
  layer (Term-F.Name word) h = k.name word
  layer (Term-F.Apply func args) h =
      let ts = map (λ (e : Held). e.0) args in
      let this : Application = record { func = func; args = ts } in
      let all = subst (All Q) (applications_apply func ts) h in
      k.apply func ts (All-head Q this (joined (map applications ts)) all) (all_held args (All-tail Q this (joined (map applications ts)) all))
  layer (Term-F.Add a b) h = (let w = both a b (Term-F.Add a.0 b.0) (applications_at (Term-F.Add a.0 b.0)) h in k.add a.0 b.0 w.0 w.1)
  layer (Term-F.Sub a b) h = (let w = both a b (Term-F.Sub a.0 b.0) (applications_at (Term-F.Sub a.0 b.0)) h in k.subtract a.0 b.0 w.0 w.1)
  layer (Term-F.Neg a) h = k.neg a.0 (a.1 (subst (All Q) (applications_at (Term-F.Neg a.0)) h))
  layer (Term-F.Scale q a) h = k.scale q a.0 (a.1 (subst (All Q) (applications_at (Term-F.Scale q a.0)) h))

  pub lower_terms : (t : Term) → All Q (applications t) → P t
  lower_terms t = ind-Term Holds (λ x y is. subst (λ z. Holds (roll-Term z)) is (layer y)) t

-- ---- they apply these functions alone
module _ (test : Word → Bool) where
  abbrev pub Passes : Application → Type 0
  Passes a = test a.func ≡ true

  arguments_apply : (args : List Term) → All (λ t. applies_only test t ≡ true) args → list_all (λ b. b) (map (applies_only test) args) ≡ true
  arguments_apply [] h = refl
  arguments_apply (t ∷ args) h =
      and_from (applies_only test t) (list_all (λ b. b) (map (applies_only test) args)) (All-head (λ s. applies_only test s ≡ true) t args h)
      (arguments_apply args (All-tail (λ s. applies_only test s ≡ true) t args h))

  pub lower_applies : (t : Term) → All Passes (applications t) → applies_only test t ≡ true
  lower_applies t e = lower_terms Passes (λ s. applies_only test s ≡ true) (record {
    number = λ q. fold-roll-Term Bool (applies_step test) (Term-F.Number q);
    null = fold-roll-Term Bool (applies_step test) Term-F.Null;
    name = λ word. fold-roll-Term Bool (applies_step test) (Term-F.Name word);
    apply = λ func args h all. fold-roll-Term Bool (applies_step test) (Term-F.Apply func args) ∙ and_from (test func) (list_all (λ b. b) (map (applies_only test) args)) h (arguments_apply args all);
    add = λ a b h l. fold-roll-Term Bool (applies_step test) (Term-F.Add a b) ∙ and_from (applies_only test a) (applies_only test b) h l;
    subtract = λ a b h l. fold-roll-Term Bool (applies_step test) (Term-F.Sub a b) ∙ and_from (applies_only test a) (applies_only test b) h l;
    neg = λ a h. fold-roll-Term Bool (applies_step test) (Term-F.Neg a) ∙ h;
    scale = λ q a h. fold-roll-Term Bool (applies_step test) (Term-F.Scale q a) ∙ h;
  }) t e

  -- without applications they apply none
  pub bare_applies : (t : Term) → applications t ≡ [] → applies_only test t ≡ true
  bare_applies t e = lower_applies t (none_lower Passes t e)

  pub bare_atoms_apply : (atoms : List Atom) → atoms_applications atoms ≡ [] → list_all (atom_applies test) atoms ≡ true
  bare_atoms_apply [] e = refl
  bare_atoms_apply (a ∷ atoms) e =
      let w = both_none (applications a.left ++ applications a.right) (atoms_applications atoms) e in
      let s = both_none (applications a.left) (applications a.right) w.0 in
      and_from (atom_applies test a) (list_all (atom_applies test) atoms)
      (and_from (applies_only test a.left) (applies_only test a.right) (bare_applies a.left s.0) (bare_applies a.right s.1)) (bare_atoms_apply atoms w.1)
