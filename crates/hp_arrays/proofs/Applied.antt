-- Terms by the applications in them.
use Rattle.std.proofs.Common.{◌≡◌, List, [], ◌∷◌, ◌++◌, map, Bool, true, subst}
use Rattle.std.specs.List.{All, list_all}
use Rattle.std.proofs.lemmas.Bool.{and_parts}
use Rattle.std.proofs.lemmas.List.Elements.{All-cons, All-head, All-nil}
use Rattle.hp_math.specs.Rational.{ℚ}
use Rattle.hp_tree.specs.declared.term.Term.{Term, ind-Term, map-Term, roll-Term}
use Rattle.hp_tree.specs.declared.term.Term.TheOpen.{Term-F}
use Rattle.hp_tree.specs.declared.problem.Atom.{Atom}
use Rattle.hp_tree.specs.Value.{Word}
use Rattle.hp_terms.specs.Occurring.{joined}
use Rattle.hp_flatten.specs.declared.application.Application.{Application}
use Rattle.hp_flatten.specs.Applications.{applications, atoms_applications}
use Rattle.hp_flatten.proofs.HoldsTerms.{applications_apply, applications_at, back, front}

-- ---- lists
-- each element passes a test that all pass
pub all_pass : {X : Type 0} (test : X → Bool) (xs : List X) → list_all test xs ≡ true → All (λ x. test x ≡ true) xs
all_pass test [] e = All-nil (λ x. test x ≡ true)
all_pass test (x ∷ xs) e = (let p = and_parts (test x) (list_all test xs) e in All-cons (λ x. test x ≡ true) x xs p.0 (all_pass test xs p.1))

-- ---- induction
-- what holds of numbers, null and names, of applications that pass, and of sums, differences, negations and multiples where it holds
-- of their parts
pub record IsKept (P : Application → Type 0) (Q : Term → Type 0) : Type 0 where
  pub number : (q : ℚ) → Q (roll-Term (Term-F.Number q))
  pub null : Q (roll-Term Term-F.Null)
  pub name : (word : Word) → Q (roll-Term (Term-F.Name word))
  pub apply : (func : Word) (args : List Term) → P (record { func = func; args = args }) → Q (roll-Term (Term-F.Apply func args))
  pub add : (a b : Term) → Q a → Q b → Q (roll-Term (Term-F.Add a b))
  pub subtract : (a b : Term) → Q a → Q b → Q (roll-Term (Term-F.Sub a b))
  pub neg : (a : Term) → Q a → Q (roll-Term (Term-F.Neg a))
  pub scale : (q : ℚ) (a : Term) → Q a → Q (roll-Term (Term-F.Scale q a))

module _ (P : Application → Type 0) (Q : Term → Type 0) (k : IsKept P Q) where
  abbrev Holds : Term → Type 0
  Holds t = All P (applications t) → Q t

  abbrev Held : Type 0
  Held = (t : Term) × Holds t

  both : (a b : Held) (wrap : Term-F Term) → applications (roll-Term wrap) ≡ applications a.0 ++ applications b.0 → All P (applications (roll-Term wrap)) → Q a.0 × Q b.0
  both a b wrap is h = (let g = subst (All P) is h in (a.1 (front P (applications a.0) (applications b.0) g), b.1 (back P (applications a.0) (applications b.0) g)))

  layer : (y : Term-F Held) → Holds (roll-Term (map-Term Held Term (λ e. e.0) y))
  layer (Term-F.Number q) h = k.number q
  layer Term-F.Null h = k.null
  layer (Term-F.Name word) h = k.name word
  layer (Term-F.Apply func args) h =
      let ts = map (λ (e : Held). e.0) args in
      let this : Application = record { func = func; args = ts } in
      k.apply func ts (All-head P this (joined (map applications ts)) (subst (All P) (applications_apply func ts) h))
  layer (Term-F.Add a b) h = (let w = both a b (Term-F.Add a.0 b.0) (applications_at (Term-F.Add a.0 b.0)) h in k.add a.0 b.0 w.0 w.1)
  layer (Term-F.Sub a b) h = (let w = both a b (Term-F.Sub a.0 b.0) (applications_at (Term-F.Sub a.0 b.0)) h in k.subtract a.0 b.0 w.0 w.1)
  layer (Term-F.Neg a) h = k.neg a.0 (a.1 (subst (All P) (applications_at (Term-F.Neg a.0)) h))
  layer (Term-F.Scale q a) h = k.scale q a.0 (a.1 (subst (All P) (applications_at (Term-F.Scale q a.0)) h))

  pub applied_terms : (t : Term) → All P (applications t) → Q t
  applied_terms t = ind-Term Holds (λ x y is. subst (λ z. Holds (roll-Term z)) is (layer y)) t

-- ---- atoms
-- the applications of both sides pass
pub record SidesPass (P : Application → Type 0) (atom : Atom) : Type 0 where
  pub left : All P (applications atom.left)
  pub right : All P (applications atom.right)

pub atoms_pass : (P : Application → Type 0) (atoms : List Atom) → All P (atoms_applications atoms) → All (SidesPass P) atoms
atoms_pass P [] h = All-nil (SidesPass P)
atoms_pass P (a ∷ atoms) h =
    let sides = front P (applications a.left ++ applications a.right) (atoms_applications atoms) h in
    All-cons (SidesPass P) a atoms
    (record { left = front P (applications a.left) (applications a.right) sides; right = back P (applications a.left) (applications a.right) sides })
    (atoms_pass P atoms (back P (applications a.left ++ applications a.right) (atoms_applications atoms) h))
