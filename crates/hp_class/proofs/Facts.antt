-- The points of a function in a frame are those of its applications.
use Rattle.std.proofs.Common.{◌≡◌, ◌∙◌, ℕ, zero, suc, Bool, true, false, cond, List, [], ◌∷◌, ◌++◌, map, nat_eq, Option, Some, None, refl, sym, ap}
use Rattle.std.specs.Prelude.{position, slice_get}
use Rattle.std.specs.List.{filter}
use Rattle.std.specs.Str.{bytes_eq}
use Rattle.std.proofs.lemmas.Bool.{eqb-false, eqb-true}
use Rattle.std.proofs.lemmas.List.{map-append}
use Rattle.std.proofs.lemmas.Option.{none-some, same_Some}
use Rattle.hp_names.specs.Names.{AreDistinct}
use Rattle.hp_names.proofs.Texts.{same_text, text_same}
use Rattle.hp_tree.specs.Value.{Word}
use Rattle.hp_lit.specs.declared.line.Arg.{Arg}
use Rattle.hp_lit.specs.declared.line.Body.{Body}
use Rattle.hp_lit.specs.declared.line.Body.TheVariants.{Apply, Sum}
use Rattle.hp_lit.specs.declared.line.Def.{Def}
use Rattle.hp_lit.specs.Truth.{Values}
use Rattle.hp_local.specs.Frame.{Fact}
use Rattle.hp_local.specs.Rows.{own_facts}
use Rattle.hp_defs.specs.declared.names.Signature.{Signature}
use Rattle.hp_defs.specs.Names.{signature_name}
use Rattle.hp_defs.proofs.Distinct.{position_of}
use Rattle.hp_base.specs.Congruence.{Point}
use Rattle.hp_class.specs.Frame.{body_facts, definition_facts, fact_of, signature_facts}
use Rattle.hp_class.specs.Laws.{OwnFactsArePoints}
use Rattle.hp_class.specs.Points.{body_point, points}

filter_both : {A : Type 0} (test : A → Bool) (xs ys : List A) → filter test (xs ++ ys) ≡ filter test xs ++ filter test ys
filter_both test [] ys = refl
filter_both test (x ∷ xs) ys = elim (test x) as (λ b. cond b (x ∷ filter test (xs ++ ys)) (filter test (xs ++ ys)) ≡ cond b (x ∷ filter test xs) (filter test xs) ++ filter test ys) [
  | true ↦ ap (λ zs. x ∷ zs) (filter_both test xs ys)
  | false ↦ filter_both test xs ys
]

pub word_there : (ss : List Signature) (k : ℕ) (s : Signature) → slice_get ss k ≡ Some s → slice_get (map signature_name ss) k ≡ Some s.name
word_there [] k s e = absurd (cc)
word_there (t ∷ ss) zero s e = let same : t ≡ s = cc in ap (λ (x : Signature). Some x.name) same
word_there (t ∷ ss) (suc k) s e = word_there ss k s e

module _ (ss : List Signature) (v : Values) (once : AreDistinct (map signature_name ss)) (func : ℕ) (signature : Signature) (known : slice_get ss func ≡ Some signature) where
  abbrev own : List Fact → List Fact
  own facts = own_facts signature.name facts

  abbrev given : List Point → List Fact
  given ps = map (fact_of signature.name v) ps

  -- functions at two places have two words
  apart : (g : ℕ) (s : Signature) → slice_get ss g ≡ Some s → nat_eq g func ≡ false → bytes_eq signature.name s.name ≡ false
  apart g s there other = by (bytes_eq signature.name s.name) refl
    where
      by : (b : Bool) → bytes_eq signature.name s.name ≡ b → b ≡ false
      by false t = refl
      by true t =
          let same : signature.name ≡ s.name = same_text signature.name s.name t in
          let here = position_of (map signature_name ss) func signature.name once (word_there ss func signature known) in
          let also = position_of (map signature_name ss) g s.name once (word_there ss g s there) in
          let places : func ≡ g = same_Some func g (sym here ∙ ap (λ (w : Word). position (bytes_eq w) (map signature_name ss)) same ∙ also) in
          absurd (eqb-false g func other (sym places))

  one_own : (d : Def) (g : ℕ) (args : List Arg) → own (body_facts ss v d (Apply g args)) ≡ given (body_point func d (Apply g args))
  one_own d g args = by (nat_eq g func) refl (slice_get ss g) refl
    where
      p : Point
      p = record { name = d.name; args = args }

      by : (b : Bool) → nat_eq g func ≡ b → (o : Option Signature) → slice_get ss g ≡ o → own (signature_facts v p o) ≡ given (cond b (p ∷ []) [])
      by true t None e = absurd (none-some signature (sym e ∙ ap (λ k. slice_get ss k) (eqb-true g func t) ∙ known))
      by true t (Some s) e =
          let same : s ≡ signature = same_Some s signature (sym e ∙ ap (λ k. slice_get ss k) (eqb-true g func t) ∙ known) in
          ap (λ (x : Signature). own (fact_of x.name v p ∷ [])) same ∙ ap (λ b. cond b (fact_of signature.name v p ∷ []) []) (text_same signature.name)
      by false t None e = refl
      by false t (Some s) e = ap (λ b. cond b (fact_of s.name v p ∷ []) []) (apart g s e t)

  body_own : (d : Def) (body : Body) → own (body_facts ss v d body) ≡ given (body_point func d body)
  body_own d (Apply g args) = one_own d g args
  body_own d (Sum lin) = refl

  pub all_own : (ds : List Def) → own (definition_facts ss v ds) ≡ given (points func ds)
  all_own [] = refl
  all_own (d ∷ ds) =
      filter_both (λ (k : Fact). bytes_eq signature.name k.func) (body_facts ss v d d.body) (definition_facts ss v ds)
      ∙ (λ i. body_own d d.body i ++ all_own ds i)
      ∙ sym (map-append (fact_of signature.name v) (body_point func d d.body) (points func ds))

pub own_facts_are_points : OwnFactsArePoints
own_facts_are_points names v func signature made known = all_own names.signatures v made.functions func signature known names.definitions
