-- Definitions that were found or made: where they stand, and what stays so.
use Rattle.std.proofs.Common.{◌≡◌, ℕ, zero, suc, ◌+◌, ◌<◌, ◌++◌, List, [], ◌∷◌, length, map, Bool, true, false, cond, nat_lt, Option, Some, None, Result, Ok, Err, slice_get, refl, sym, ap, subst, ◌∙◌, arith, inl, inr}
use Rattle.std.specs.List.{All}
use Rattle.std.proofs.lemmas.Bool.{ltb-true}
use Rattle.std.proofs.lemmas.List.{length-map}
use Rattle.std.proofs.lemmas.List.Elements.{All-append, All-weaker}
use Rattle.hp_tree.specs.Limits.{most_names}
use Rattle.hp_tree.specs.declared.limit.Limit.{Limit}
use Rattle.hp_tree.specs.declared.problem.Sort.{Sort}
use Rattle.hp_tree.specs.declared.problem.Sort.TheVariants.{Num, Idx, Ptr}
use Rattle.hp_lit.specs.declared.literal.Name.{Name}
use Rattle.hp_lit.specs.declared.literal.Lit.{Lit}
use Rattle.hp_lit.specs.declared.literal.Lit.TheVariants as lit
use Rattle.hp_lit.specs.declared.line.Body.{Body}
use Rattle.hp_lit.specs.declared.line.Body.TheVariants.{Sum}
use Rattle.hp_lit.specs.declared.line.Def.{Def}
use Rattle.hp_lit.specs.declared.line.Lin.{Lin}
use Rattle.hp_lit.specs.declared.line.Line.{Line}
use Rattle.hp_lit.specs.Fit.{IsFit, IsSide}
use Rattle.hp_lit.specs.Growing.{Begins as IsFront}
use Rattle.hp_lit.specs.Limited.{many_names}
use Rattle.hp_lit.specs.Truth.{Values, name_value}
use Rattle.hp_linear.specs.Values.{lin_value}
use Rattle.hp_defs.specs.declared.names.Constant.{Constant}
use Rattle.hp_defs.specs.declared.names.Ground.{Ground}
use Rattle.hp_defs.specs.First.{IsFirst}
use Rattle.hp_defs.specs.Fit.{BodyFits, IsFitNames}
use Rattle.hp_defs.specs.Made.{IsMade, IsSmallBody}
use Rattle.hp_defs.specs.Names.{NameList, bodies, constant_sort, count, definition_body, definition_name, next, sort_of_body, sort_of_definition, sorts, with_definition}
use Rattle.hp_defs.specs.Same.{place}
use Rattle.hp_defs.proofs.Adding.{definition_made}
use Rattle.hp_defs.proofs.Fitting.{fit_names_grow}
use Rattle.hp_defs.proofs.Growing.{begins_get, sorts_begin}
use Rattle.hp_defs.proofs.Lists.{get_front, pushed}
use Rattle.hp_defs.proofs.Same.{place_is_exact}
use Rattle.hp_base.specs.Making.{Begins}
use Rattle.hp_base.specs.Defining.{made}
use Rattle.hp_base.specs.Laws.{HasSumLine, HasSums, IsDefined, IsFitLine}
use Rattle.hp_base.specs.Values.{SumsHold}
use Rattle.hp_base.proofs.Making.{begins_names}
use Rattle.hp_base.proofs.ArgsSteps.{gave}

-- ---- places in lists
-- what stands behind a list stands so many places further
pub get_behind : {A : Type 0} (xs ys : List A) (k : ℕ) → slice_get (xs ++ ys) (length xs + k) ≡ slice_get ys k
get_behind [] ys k = ap (slice_get ys) (let e : 0 + k ≡ k = omega arith in e)
get_behind (x ∷ xs) ys k = ap (slice_get (x ∷ (xs ++ ys))) (let e : suc (length xs) + k ≡ suc (length xs + k) = omega arith in e) ∙ get_behind xs ys k

pub last_get : {A : Type 0} (xs : List A) (x : A) → slice_get (xs ++ x ∷ []) (length xs) ≡ Some x
last_get [] x = refl
last_get (y ∷ ys) x = last_get ys x

pub get_map : {A B : Type 0} (f : A → B) (xs : List A) (k : ℕ) (x : A) → slice_get xs k ≡ Some x → slice_get (map f xs) k ≡ Some (f x)
get_map f [] k x e = absurd (cc)
get_map f (y ∷ ys) zero x e = let same : y ≡ x = cc in ap (λ z. Some (f z)) same
get_map f (y ∷ ys) (suc k) x e = get_map f ys k x e

-- what a mapped element came from
record FromMap {A B : Type 0} (f : A → B) (xs : List A) (k : ℕ) (y : B) : Type 0 where
  from : A
  there : slice_get xs k ≡ Some from
  same : f from ≡ y

from_map : {A B : Type 0} (f : A → B) (xs : List A) (k : ℕ) (y : B) → slice_get (map f xs) k ≡ Some y → FromMap f xs k y
from_map f [] k y e = absurd (cc)
from_map f (x ∷ xs) zero y e = record { from = x; there = refl; same = cc }
from_map f (x ∷ xs) (suc k) y e = let h = from_map f xs k y e in record { from = h.from; there = h.there; same = h.same }

-- ---- names of definitions
-- the name of a definition has the sort of its body
pub defined_sort : (names : NameList) (name : Name) (body : Body) → IsDefined names name body → slice_get (sorts names) name.0 ≡ Some (sort_of_body names.signatures body)
defined_sort names name body d =
    let front = map constant_sort names.constants in
    let back = map (sort_of_definition names.signatures) names.definitions in
    let at : name.0 ≡ length front + d.place = ap (λ (n : Name). n.0) d.has_name ∙ ap (λ (n : ℕ). n + d.place) (sym (length-map names.constants constant_sort)) in
    ap (slice_get (front ++ back)) at ∙ get_behind front back d.place
    ∙ get_map (sort_of_definition names.signatures) names.definitions d.place d.definition d.there
    ∙ ap (λ b. Some (sort_of_body names.signatures b)) d.has_body

-- and it has it from then on
pub defined_stays : (old new : Ground) (name : Name) (body : Body) → Begins old new → IsDefined old.names name body → IsDefined new.names name body
defined_stays old new name body b d = record {
  place = d.place;
  definition = d.definition;
  there = begins_get old.names.definitions new.names.definitions d.place d.definition (record { more = b.made; all = b.definitions }) d.there;
  has_body = d.has_body;
  has_name = d.has_name ∙ ap (λ (cs : List Constant). let n : Name = record { 0 = length cs + d.place } in n) (sym b.constants);
}

pub sum_has_value : (names : NameList) (v : Values) (name : Name) (lin : Lin) → IsDefined names name (Sum lin) → SumsHold names v → name_value v name.0 ≡ lin_value v lin
sum_has_value names v name lin d hold = ap (λ (n : Name). name_value v n.0) d.has_name ∙ hold d.place d.definition lin d.there d.has_body

-- ---- found or made
-- the body was that of a definition that there was
pub record IsOld (body : Body) (before after : Ground) (name : Name) : Type 0 where
  pub there : IsDefined before.names name body
  pub same : before ≡ after

-- the body is that of the definition that was added, with these lines
pub record IsNew (body : Body) (before after : Ground) (name : Name) (added : List Line) : Type 0 where
  pub room : count before.names < most_names
  pub fresh : place body before.names.definitions ≡ None
  pub has_name : next before.names ≡ name
  pub names : after.names ≡ with_definition before.names body
  pub lines : after.lines ≡ before.lines ++ added

-- a body that was found is that of the definition at its place
pub found_is_old : (body : Body) (k : ℕ) (name : Name) (before after : Ground) → place body before.names.definitions ≡ Some k → definition_name before.names k ≡ name → before ≡ after → IsOld body before after name
found_is_old body k name before after e n s =
    let first = subst (λ (r : Option ℕ). IsFirst body (bodies before.names) r) e (place_is_exact body before.names.definitions) in
    let from = from_map definition_body before.names.definitions k body first.0 in
    record { there = record { place = k; definition = from.from; there = from.there; has_body = from.same; has_name = sym n }; same = s }

-- a definition that was made
pub record IsMadeThere (body : Body) (before after : Ground) (name : Name) : Type 0 where
  pub room : count before.names < most_names
  pub has_name : next before.names ≡ name
  pub same : record { names = with_definition before.names body; lines = before.lines } ≡ after

pub made_there : (body : Body) (name : Name) (before after : Ground) → made body before ≡ Ok (name, after) → IsMadeThere body before after name
made_there body name before after e =
    let g : Ground = record { names = with_definition before.names body; lines = before.lines } in
    (elim (nat_lt (count before.names) most_names) as (λ (t : Bool). nat_lt (count before.names) most_names ≡ t
    → ◌≡◌ {A = Result (Name × Ground) Limit} (cond t (Ok (next before.names, g)) (Err many_names)) (Ok (name, after)) → IsMadeThere body before after name) [
      | true ↦ λ t e. let h = gave (next before.names) name g after e in record { room = ltb-true (count before.names) most_names t; has_name = h.value; same = h.ground }
      | false ↦ λ t e. absurd (cc)
    ]) refl e

-- ---- what stays
module _ (body : Body) (before after : Ground) (name : Name) where
  pub old_defined : IsOld body before after name → IsDefined after.names name body
  old_defined o = subst (λ (g : Ground). IsDefined g.names name body) o.same o.there

  module _ (added : List Line) (new : IsNew body before after name added) where
    abbrev last : Def
    last = record { name = next before.names; body = body }

    pub new_defined : IsDefined after.names name body
    new_defined = subst (λ (n : NameList). IsDefined n name body) (sym new.names) (record {
      place = length before.names.definitions;
      definition = last;
      there = last_get before.names.definitions last;
      has_body = refl;
      has_name = sym new.has_name;
    })

    pub new_fits : BodyFits before.names body → IsFitNames before.names → IsFitNames after.names
    new_fits h fit = subst IsFitNames (sym new.names) (fit_names_grow before.names body fit h)

    pub new_made : IsSmallBody body → IsMade before.names → IsMade after.names
    new_made small is = subst IsMade (sym new.names) (definition_made before.names body is new.room small new.fresh)

-- ---- sums have their lines
pub sum_line_stays : (lines added : List Line) (name : Name) (lin : Lin) → HasSumLine lines name lin → HasSumLine (lines ++ added) name lin
sum_line_stays lines added name lin h = record { at = h.at; line = h.line; there = get_front lines added h.at h.line h.there; says = h.says }

-- the line of the sum that was added, if it was one
abbrev pub IsSumLined : Body → Name → List Line → Type 0
IsSumLined body name lines = (lin : Lin) → body ≡ Sum lin → HasSumLine lines name lin

pub sums_more : (names : NameList) (lines added : List Line) (body : Body) → IsSumLined body (next names) (lines ++ added) → HasSums (record { names = names; lines = lines })
    → HasSums (record { names = with_definition names body; lines = lines ++ added })
sums_more names lines added body lined has k d lin there is =
    let last : Def = record { name = next names; body = body } in
    elim (pushed names.definitions last k d there) [
      | inl s ↦ sum_line_stays lines added (definition_name names k) lin (has k d lin s is)
      | inr w ↦
          let same : body ≡ Sum lin = sym (ap (λ (x : Def). x.body) w.1) ∙ is in
          subst (λ (j : ℕ). HasSumLine (lines ++ added) (definition_name names j) lin) (sym w.0) (lined lin same)
    ]

pub new_sums : (body : Body) (before after : Ground) (name : Name) (added : List Line) → IsNew body before after name added → IsSumLined body (next before.names) (before.lines ++ added)
    → HasSums before → HasSums after
new_sums body before after name added new lined has =
    let whole : record { names = with_definition before.names body; lines = before.lines ++ added } ≡ after = λ i. record { names = sym new.names i; lines = sym new.lines i } in
    subst HasSums whole (sums_more before.names before.lines added body lined has)

-- ---- lines that can be decided
pub side_stays : (old new : List Sort) → IsFront old new → (s : Sort) (o : Option Name) → IsSide s old o → IsSide s new o
side_stays old new b s None h = tt
side_stays old new b s (Some n) h = begins_get old new n.0 s b h

literal_stays_fit : (old new : List Sort) → IsFront old new → (l : Lit) → IsFit old l → IsFit new l
literal_stays_fit old new b (lit.Num l) h = record {
  fit = h.fit;
  names = All-weaker (λ p. slice_get old p.name.0 ≡ Some Num) (λ p. slice_get new p.name.0 ≡ Some Num) (λ p e. begins_get old new p.name.0 Num b e) l.parts h.names;
}
literal_stays_fit old new b (lit.Idx l) h = record { bound = h.bound; left = side_stays old new b Idx l.left h.left; right = side_stays old new b Idx l.right h.right }
literal_stays_fit old new b (lit.Ptr l) h = record { left = side_stays old new b Ptr l.left h.left; right = side_stays old new b Ptr l.right h.right }

pub lines_stay_fit : (old new : Ground) (lines : List Line) → Begins old new → All (IsFitLine old.names) lines → All (IsFitLine new.names) lines
lines_stay_fit old new lines b all =
    let front = sorts_begin old.names new.names (begins_names old new b) in
    All-weaker (IsFitLine old.names) (IsFitLine new.names)
    (λ line h. All-weaker (IsFit (sorts old.names)) (IsFit (sorts new.names)) (literal_stays_fit (sorts old.names) (sorts new.names) front) line.lits h) lines all

-- the lines that were there, and those that were added
pub lines_fit : (old new : Ground) (added : List Line) → Begins old new → new.lines ≡ old.lines ++ added → All (IsFitLine old.names) old.lines → All (IsFitLine new.names) added
    → All (IsFitLine new.names) new.lines
lines_fit old new added b e all more =
    subst (λ (ls : List Line). All (IsFitLine new.names) ls) (sym e) (All-append (IsFitLine new.names) old.lines added (lines_stay_fit old new old.lines b all) more)
