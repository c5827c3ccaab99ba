-- The places of the applications of each function, while functions and definitions are added one by one.
use Rattle.std.proofs.Common.{◌≡◌, ℕ, zero, suc, ◌<◌, List, [], ◌∷◌, ◌++◌, Option, Some, true, false, cond, map, length, get_or, nat_eq, refl, sym, ap, subst, ◌∙◌, append-nil, append_assoc, arith, length-append, add-one}
use Rattle.std.proofs.Common.{get_or-set_other, get_or-set_same}
use Rattle.std.specs.Option.{MatchOption}
use Rattle.std.specs.Prelude.{slice_set}
use Rattle.std.proofs.lemmas.Bool.{eqb-true, eqb-false}
use Rattle.std.proofs.lemmas.List.{length-set, map-append}
use Rattle.hp_lit.specs.declared.line.Body.{Body}
use Rattle.hp_lit.specs.declared.line.Body.TheVariants.{Apply, Sum}
use Rattle.hp_lit.specs.declared.line.Def.{Def}
use Rattle.hp_defs.specs.Places.{AreByFunction, applied, body_place, places, with_place}
use Rattle.hp_defs.proofs.Lists.{taken_off}

-- ---- functions before all definitions
get_more : {A : Type 0} (xs : List A) (x d : A) (k : ℕ) → ((j : ℕ) → j < length xs → get_or xs j d ≡ x) → k < suc (length xs) → get_or (xs ++ x ∷ []) k d ≡ x
get_more [] x d zero h l = refl
get_more [] x d (suc k) h l = absurd (omega arith)
get_more (y ∷ xs) x d zero h l = h 0 (omega arith)
get_more (y ∷ xs) x d (suc k) h l = get_more xs x d k (λ j m. h (suc j) (omega arith)) (omega arith)

pub none_start : (groups : List (List ℕ)) → groups ≡ [] → AreByFunction 0 [] groups
none_start groups e = record { many = ap (λ gs. length gs) e; each = λ func h. absurd (omega arith) }

pub none_more : (count : ℕ) (groups more : List (List ℕ)) → AreByFunction count [] groups → more ≡ groups ++ [] ∷ [] → AreByFunction (suc count) [] more
none_more count groups more a e = record {
  many = ap (λ gs. length gs) e ∙ length-append groups ([] ∷ []) ∙ add-one (length groups) ∙ ap suc a.many;
  each = λ func h. ap (λ gs. get_or gs func []) e
      ∙ get_more groups [] [] func (λ j l. a.each j (subst (λ n. j < n) a.many l)) (subst (λ n. func < suc n) (sym a.many) h);
}

-- ---- one definition more
suc_place : (func at : ℕ) (body : Body) → map suc (body_place func at body) ≡ body_place func (suc at) body
suc_place func at (Apply g args) = elim (nat_eq g func) as (λ b. map suc (cond b (at ∷ []) []) ≡ cond b (suc at ∷ []) []) [ true ↦ refl | false ↦ refl ]
suc_place func at (Sum lin) = refl

pub places_more : (func : ℕ) (ds : List Def) (d : Def) → places func (ds ++ d ∷ []) ≡ places func ds ++ body_place func (length ds) d.body
places_more func [] d = append-nil (body_place func 0 d.body)
places_more func (x ∷ ds) d =
    ap (λ ks. body_place func 0 x.body ++ ks)
    (ap (λ ks. map suc ks) (places_more func ds d)
    ∙ map-append suc (places func ds) (body_place func (length ds) d.body)
    ∙ ap (λ ks. map suc (places func ds) ++ ks) (suc_place func (length ds) d.body))
    ∙ sym (append_assoc (body_place func 0 x.body) (map suc (places func ds)) (body_place func (suc (length ds)) d.body))

placed : (groups : List (List ℕ)) (at g func : ℕ) → func < length groups
    → get_or (with_place groups at (Some g)) func [] ≡ get_or groups func [] ++ cond (nat_eq g func) (at ∷ []) []
placed groups at g func h = (elim (nat_eq g func) as (λ b. nat_eq g func ≡ b → get_or (with_place groups at (Some g)) func [] ≡ get_or groups func [] ++ cond b (at ∷ []) []) [
  | true ↦ λ t. (let e : g ≡ func = eqb-true g func t in
      let inside : g < length groups = omega arith in
      ap (λ k. get_or (with_place groups at (Some g)) k []) (sym e)
      ∙ get_or-set_same groups g (get_or groups g [] ++ at ∷ []) [] inside
      ∙ ap (λ k. get_or groups k [] ++ at ∷ []) e)
  | false ↦ λ t. get_or-set_other groups g func (get_or groups g [] ++ at ∷ []) [] (λ e. eqb-false g func t (sym e)) ∙ sym (append-nil (get_or groups func []))
]) refl

body_more : (groups : List (List ℕ)) (at func : ℕ) (body : Body) → func < length groups
    → get_or (with_place groups at (applied body)) func [] ≡ get_or groups func [] ++ body_place func at body
body_more groups at func (Apply g args) h = placed groups at g func h
body_more groups at func (Sum lin) h = sym (append-nil (get_or groups func []))

body_many : (groups : List (List ℕ)) (at : ℕ) (body : Body) → length (with_place groups at (applied body)) ≡ length groups
body_many groups at (Apply g args) = length-set groups g (get_or groups g [] ++ at ∷ [])
body_many groups at (Sum lin) = refl

pub by_function_more : (count : ℕ) (ds : List Def) (d : Def) (groups : List (List ℕ)) → AreByFunction count ds groups
    → AreByFunction count (ds ++ d ∷ []) (with_place groups (length ds) (applied d.body))
by_function_more count ds d groups a = record {
  many = body_many groups (length ds) d.body ∙ a.many;
  each = λ func h.
      body_more groups (length ds) func d.body (subst (λ n. func < n) (sym a.many) h)
      ∙ ap (λ ks. ks ++ body_place func (length ds) d.body) (a.each func h)
      ∙ sym (places_more func ds d);
}

-- ---- one definition less
set_back : (kept : List (List ℕ)) (at g : ℕ) (left : List ℕ) → g < length kept → left ≡ get_or kept g [] → slice_set (with_place kept at (Some g)) g left ≡ kept
set_back [] at g left h e = absurd (omega arith)
set_back (x ∷ xs) at zero left h e = ap (λ y. y ∷ xs) e
set_back (x ∷ xs) at (suc g) left h e = ap (λ ys. x ∷ ys) (set_back xs at g left (omega arith) e)

-- what is left when the place that was put last is taken off
pub place_off : (groups kept : List (List ℕ)) (at g : ℕ) (r : Option ℕ) (old left d : List ℕ) → groups ≡ with_place kept at (Some g) → g < length groups
    → old ≡ get_or groups g d → MatchOption r ((old ≡ []) × (left ≡ [])) (λ last. old ≡ left ++ last ∷ []) → slice_set groups g left ≡ kept
place_off groups kept at g r old left d is h e m =
    let inside : g < length kept = subst (λ n. g < n) (ap (λ gs. length gs) is ∙ length-set kept g (get_or kept g [] ++ at ∷ [])) h in
    let last : old ≡ get_or kept g [] ++ at ∷ [] = e ∙ ap (λ gs. get_or gs g d) is ∙ get_or-set_same kept g (get_or kept g [] ++ at ∷ []) d inside in
    ap (λ gs. slice_set gs g left) is ∙ set_back kept at g left inside (taken_off (get_or kept g []) at r old left last m)
