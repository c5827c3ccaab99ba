-- Computations that may be refused, step by step.
use Rattle.std.proofs.Common.{◌≡◌, List, [], ◌++◌, Result, Ok, Err, refl, sym, ap, subst, append_assoc}
use Rattle.hp_num.specs.declared.wide.Wide.{Wide as TooWide}
use Rattle.hp_num.specs.Wide.{◌>>=◌}
use Rattle.hp_lit.specs.declared.refusal.Refusal.{Refusal}
use Rattle.hp_lit.specs.declared.refusal.Refusal.TheVariants.{Wide, Memory}
use Rattle.hp_linear.specs.Steps.{Refusable, behind, unless_wide}
use Rattle.hp_linear.specs.Answers.{Answers}

pub behind_nothing : {A : Type 0} (r : Refusable (List A)) → behind [] r ≡ r
behind_nothing (Ok x) = refl
behind_nothing (Err e) = refl

pub behind_behind : {A : Type 0} (xs ys : List A) (r : Refusable (List A)) → behind xs (behind ys r) ≡ behind (xs ++ ys) r
behind_behind xs ys (Ok zs) = ap Ok (sym (append_assoc xs ys zs))
behind_behind xs ys (Err e) = refl

-- ---- what calls answer
pub refused_first : {A B : Type 0} (r : Refusable A) (f : A → Refusable B) (e : Refusal) → Answers r (Err e) → Answers (r >>= f) (Err e)
refused_first r f Wide h = ap (λ x. x >>= f) h
refused_first r f Memory h = tt

pub answers_from : {A : Type 0} (r s a : Refusable A) → r ≡ s → Answers s a → Answers r a
answers_from r s a e h = subst (λ x. Answers x a) (sym e) h

pub answers_then : {A B : Type 0} (r : Refusable A) (f : A → Refusable B) (x : A) (a : Refusable B) → Answers r (Ok x) → Answers (f x) a → Answers (r >>= f) a
answers_then r f x a e h = answers_from (r >>= f) (f x) a (ap (λ y. y >>= f) e) h

pub short_memory : {A : Type 0} (r : Refusable A) (e : Refusal) → e ≡ Memory → Answers r (Err e)
short_memory r e h = subst (λ x. Answers r (Err x)) (sym h) tt

-- an operation on numbers answers exactly
pub answers_exact : {A : Type 0} (r a : Refusable A) → a ≡ r → Answers r a
answers_exact r (Ok x) e = sym e
answers_exact r (Err Wide) e = sym e
answers_exact r (Err Memory) e = tt

-- ---- steps of a computation that gave a value
pub ok_same : {A : Type 0} (x y : A) → ◌≡◌ {A = Refusable A} (Ok x) (Ok y) → x ≡ y
ok_same {A} x y e = ap (λ (o : Refusable A). elim o [ Ok z ↦ z | Err z ↦ x ]) e

-- an operation on numbers that was not too wide
pub not_wide : {A : Type 0} (r : Result A TooWide) (x : A) → unless_wide r ≡ Ok x → r ≡ Ok x
not_wide (Ok y) x e = ap (λ z. Ok z) (ok_same y x e)
not_wide (Err y) x e = absurd (cc)
