-- The load of a term: it is at most the weight, parts have no more in indexes, and it stays while names are added.
use Rattle.std.proofs.Common.{◌≡◌, ℕ, ◌+◌, ◌≤◌, ◌<◌, max, zero, suc, List, [], ◌∷◌, map, length, get_or, slice_get, Option, Some, sym, ap, subst, ◌∙◌, arith, unsigned_abs}
use Rattle.std.specs.Prelude.{option_and_then, option_map, position}
use Rattle.std.specs.Str.{bytes_eq}
use Rattle.std.specs.List.{All, AllZip}
use Rattle.std.proofs.lemmas.List.Elements.{All-nil, All-cons, All-head, All-tail, All-weaker}
use Rattle.hp_math.specs.Rational.{ℚ}
use Rattle.hp_tree.specs.declared.term.Term.{Term, Apply, Add, Sub, Neg, Scale, fold-Term, fold-roll-Term, roll-Term, map-Term}
use Rattle.hp_tree.specs.declared.term.Term.TheOpen.{Term-F}
use Rattle.hp_tree.specs.declared.term.Term.TheVariants.{rolls-Apply, rolls-Add, rolls-Sub, rolls-Neg, rolls-Scale}
use Rattle.hp_tree.specs.declared.problem.Sort.{Sort}
use Rattle.hp_tree.specs.declared.problem.Sort.TheVariants.{Num, Idx, Ptr}
use Rattle.hp_tree.specs.declared.problem.Atom.{Atom}
use Rattle.hp_terms.specs.Scope.{Scope}
use Rattle.hp_terms.specs.Weight.{IsLightAtom, largest_offset, weight, weight_step, weights}
use Rattle.hp_terms.specs.Laws.{parts_of}
use Rattle.hp_index.proofs.Layers.{Parts, bare, by_layers}
use Rattle.hp_tree.specs.Value.{Word}
use Rattle.hp_defs.specs.declared.names.Ground.{Ground}
use Rattle.hp_defs.specs.declared.names.Signature.{Signature}
use Rattle.hp_defs.specs.Names.{NameList, function_words, profile_of}
use Rattle.hp_base.specs.Making.{Begins}
use Rattle.hp_norm.specs.Loads.{ArgumentsAreLight, HasLightIndexes, IsLightPlace, IsLightWithin, Load, WeighsAtMost, WeighsNoMore, argument_sorts, arguments_load, both_loads, load, load_step, own_load, place_load, places_of}
use Rattle.hp_norm.specs.Scopes.{function_profile, term_scope}
use Rattle.hp_norm.proofs.NamedWords.{profiles_stay}
use Rattle.hp_norm.proofs.TermsKept.{IsBound}

-- what the loads of arguments say of the first one
pub placed_load : (place : Sort) (x : Load) → place_load place x ≤ largest_offset → IsLightPlace place x
placed_load Num x h = record { inner = h; own = λ e. absurd (cc) }
placed_load Idx x h = record { inner = omega (arith, h); own = λ e. omega (arith, h) }
placed_load Ptr x h = record { inner = h; own = λ e. absurd (cc) }

inner_within : (place : Sort) (x : Load) → x.indexes ≤ place_load place x
inner_within Num x = omega arith
inner_within Idx x = omega arith
inner_within Ptr x = omega arith

-- ---- weights as bounds
abbrev layer_weight : Term-F Term → ℕ
layer_weight z = weight_step (map-Term Term ℕ weight z)

weight_of : (z : Term-F Term) (n : ℕ) → n ≤ layer_weight z → n ≤ weight (roll-Term z)
weight_of z n h = subst (λ m. n ≤ m) (sym (fold-roll-Term ℕ weight_step z)) h

pub weights_bound : IsBound weight
weights_bound = record {
  numbers = λ q. weight_of (Term-F.Number q) (unsigned_abs q.num) (omega arith);
  sums = λ a b. weight_of (Term-F.Add a b) (weight a + weight b) (omega arith);
  differences = λ a b. weight_of (Term-F.Sub a b) (weight a + weight b) (omega arith);
  negations = λ a. weight_of (Term-F.Neg a) (weight a) (omega arith);
  multiples = λ q a. weight_of (Term-F.Scale q a) (unsigned_abs q.num + weight a) (omega arith);
}

one_light : (most : Term → ℕ) → ((t : Term) → most t ≤ weight t) → (atom flat : Atom) → IsLightAtom atom → WeighsAtMost most atom flat → IsLightAtom flat
one_light most below atom flat light h =
    let left = h.left in
    let right = h.right in
    let some = below atom.left in
    let more = below atom.right in
    omega (arith, light, left, right, some, more)

-- atoms that weigh at most as much as light ones are light
pub light_flats : (most : Term → ℕ) → ((t : Term) → most t ≤ weight t) → (atoms flats : List Atom) → All IsLightAtom atoms → AllZip (WeighsAtMost most) atoms flats → All IsLightAtom flats
light_flats most below [] [] light less = All-nil IsLightAtom
light_flats most below [] (flat ∷ flats) light less = absurd less
light_flats most below (atom ∷ atoms) [] light less = absurd less
light_flats most below (atom ∷ atoms) (flat ∷ flats) light less =
    All-cons IsLightAtom flat flats (one_light most below atom flat (All-head IsLightAtom atom atoms light) less.0)
    (light_flats most below atoms flats (All-tail IsLightAtom atom atoms light) less.1)

-- ---- loads
module _ (scope : Scope) where
  abbrev layer_load : Term-F Term → Load
  layer_load z = load_step (places_of scope) (map-Term Term Load (load scope) z)

  -- ---- parts
  each_inner : (sorts : List Sort) (ts : List Term) → All (λ t. (load scope t).indexes ≤ arguments_load sorts (map (load scope) ts)) ts
  each_inner sorts [] = All-nil _
  each_inner [] (t ∷ ts) =
      All-cons (λ u. (load scope u).indexes ≤ max (load scope t).indexes (arguments_load [] (map (load scope) ts))) t ts (omega arith)
      (All-weaker (λ u. (load scope u).indexes ≤ arguments_load [] (map (load scope) ts)) (λ u. (load scope u).indexes ≤ max (load scope t).indexes (arguments_load [] (map (load scope) ts))) (λ u h. omega (arith, h)) ts (each_inner [] ts))
  each_inner (sort ∷ sorts) (t ∷ ts) =
      let own = inner_within sort (load scope t) in
      All-cons (λ u. (load scope u).indexes ≤ max (place_load sort (load scope t)) (arguments_load sorts (map (load scope) ts))) t ts (omega (arith, own))
      (All-weaker (λ u. (load scope u).indexes ≤ arguments_load sorts (map (load scope) ts)) (λ u. (load scope u).indexes ≤ max (place_load sort (load scope t)) (arguments_load sorts (map (load scope) ts))) (λ u h. omega (arith, h)) ts (each_inner sorts ts))

  one_inner : (part : Term) (most : ℕ) → (load scope part).indexes ≤ most → All (λ p. (load scope p).indexes ≤ most) (part ∷ [])
  one_inner part most h = All-cons (λ p. (load scope p).indexes ≤ most) part [] h (All-nil (λ p. (load scope p).indexes ≤ most))

  both_inner : (a b : Term) → All (λ p. (load scope p).indexes ≤ max (load scope a).indexes (load scope b).indexes) (a ∷ b ∷ [])
  both_inner a b =
      let most = max (load scope a).indexes (load scope b).indexes in
      All-cons (λ p. (load scope p).indexes ≤ most) a (b ∷ []) (omega arith) (one_inner b most (omega arith))

  step_inner : (z : Term-F Term) → All (λ part. (load scope part).indexes ≤ (layer_load z).indexes) (parts_of z)
  step_inner (Term-F.Number q) = All-nil _
  step_inner Term-F.Null = All-nil _
  step_inner (Term-F.Name name) = All-nil _
  step_inner (Term-F.Apply func args) = each_inner (argument_sorts (scope.function func)) args
  step_inner (Term-F.Add a b) = both_inner a b
  step_inner (Term-F.Sub a b) = both_inner a b
  step_inner (Term-F.Neg a) = one_inner a (load scope a).indexes (omega arith)
  step_inner (Term-F.Scale q a) = one_inner a _ (omega arith)

  pub parts_have_no_more : (z : Term-F Term) → All (λ part. (load scope part).indexes ≤ (load scope (roll-Term z)).indexes) (parts_of z)
  parts_have_no_more z = subst (λ (l : Load). All (λ part. (load scope part).indexes ≤ l.indexes) (parts_of z)) (sym (fold-roll-Term Load (load_step (places_of scope)) z)) (step_inner z)

  -- ---- bounds
  own_of : (z : Term-F Term) (n : ℕ) → n ≤ (layer_load z).own → n ≤ (load scope (roll-Term z)).own
  own_of z n h = subst (λ (l : Load). n ≤ l.own) (sym (fold-roll-Term Load (load_step (places_of scope)) z)) h

  pub loads_bound : IsBound (λ t. (load scope t).own)
  loads_bound = record {
    numbers = λ q. own_of (Term-F.Number q) (unsigned_abs q.num) (omega arith);
    sums = λ a b. own_of (Term-F.Add a b) ((load scope a).own + (load scope b).own) (omega arith);
    differences = λ a b. own_of (Term-F.Sub a b) ((load scope a).own + (load scope b).own) (omega arith);
    negations = λ a. own_of (Term-F.Neg a) (load scope a).own (omega arith);
    multiples = λ q a. own_of (Term-F.Scale q a) (unsigned_abs q.num + (load scope a).own) (omega arith);
  }

  -- ---- no more than the weight
  abbrev Within : Term → Type 0
  Within t = ((load scope t).own + (load scope t).indexes) ≤ weight t

  placed_within : (place : Sort) (t : Term) → Within t → place_load place (load scope t) ≤ weight t
  placed_within Num t h = omega (arith, h)
  placed_within Idx t h = omega (arith, h)
  placed_within Ptr t h = omega (arith, h)

  all_within : (sorts : List Sort) (ts : List (Parts Within)) → let terms = map (λ (e : Parts Within). e.0) ts in arguments_load sorts (map (load scope) terms) ≤ weights (map weight terms)
  all_within [] [] = omega arith
  all_within (sort ∷ sorts) [] = omega arith
  all_within [] (t ∷ ts) = let own = t.1 in let rest = all_within [] ts in omega (arith, own, rest)
  all_within (sort ∷ sorts) (t ∷ ts) = let own = placed_within sort t.0 t.1 in let rest = all_within sorts ts in omega (arith, own, rest)

  step_within : (y : Term-F (Parts Within)) → let z = bare Within y in ((layer_load z).own + (layer_load z).indexes) ≤ layer_weight z
  step_within (Term-F.Number q) = omega arith
  step_within Term-F.Null = omega arith
  step_within (Term-F.Name name) = omega arith
  step_within (Term-F.Apply func args) = let all = all_within (places_of scope func) args in omega (arith, all)
  step_within (Term-F.Add a b) = let p = a.1 in let q = b.1 in omega (arith, p, q)
  step_within (Term-F.Sub a b) = let p = a.1 in let q = b.1 in omega (arith, p, q)
  step_within (Term-F.Neg a) = a.1
  step_within (Term-F.Scale q a) = let p = a.1 in omega (arith, p)

  load_within : (t : Term) → Within t
  load_within t = by_layers Within (λ y.
      let z = bare Within y in
      subst (λ (l : Load). (l.own + l.indexes) ≤ weight (roll-Term z)) (sym (fold-roll-Term Load (load_step (places_of scope)) z))
      (subst (λ n. ((layer_load z).own + (layer_load z).indexes) ≤ n) (sym (fold-roll-Term ℕ weight_step z)) (step_within y))) t

  pub own_no_more : (t : Term) → (load scope t).own ≤ weight t
  own_no_more t = let h = load_within t in omega (arith, h)

  atom_within : (atom : Atom) → IsLightAtom atom → IsLightWithin scope atom
  atom_within atom light =
      let left = load_within atom.left in
      let right = load_within atom.right in
      record { left = omega (arith, light, left); right = omega (arith, light, right) }

  -- light atoms have light indexes
  pub light_within : (atoms : List Atom) → All IsLightAtom atoms → All (IsLightWithin scope) atoms
  light_within atoms light = All-weaker IsLightAtom (IsLightWithin scope) (λ atom h. atom_within atom h) atoms light

  -- and what weighs no more is light, too
  pub flats_are_light : (atoms flats : List Atom) → All IsLightAtom atoms → AllZip (WeighsNoMore scope) atoms flats → All IsLightAtom flats
  flats_are_light atoms flats light less = light_flats (λ t. (load scope t).own) own_no_more atoms flats light less

-- ---- while more is added
loads_stay : (before after : Ground) → Begins before after → load (term_scope after.names) ≡ load (term_scope before.names)
loads_stay before after b =
    (λ i. fold-Term Load (load_step (λ word. argument_sorts (profiles_stay before.names after.names word b.signatures i))))

pub light_later : (before after : Ground) (t : Term) → Begins before after → HasLightIndexes (term_scope before.names) t → HasLightIndexes (term_scope after.names) t
light_later before after t b h = subst (λ (l : Term → Load). (l t).indexes ≤ largest_offset) (sym (loads_stay before after b)) h

pub own_later : (before after : Ground) (t : Term) (n : ℕ) → Begins before after → n ≤ (load (term_scope after.names) t).own → n ≤ (load (term_scope before.names) t).own
own_later before after t n b h = subst (λ (l : Term → Load). n ≤ (l t).own) (loads_stay before after b) h

pub place_later : (before after : Ground) (place : Sort) (t : Term) → Begins before after → IsLightPlace place (load (term_scope before.names) t) → IsLightPlace place (load (term_scope after.names) t)
place_later before after place t b h = subst (λ (l : Term → Load). IsLightPlace place (l t)) (sym (loads_stay before after b)) h

-- ---- one of many
load_at : (names : NameList) (ts : List Term) (ss : List Sort) (i : ℕ) (t : Term) (d : Sort) (n : ℕ) → i < length ts → i < length ss → t ≡ get_or ts i t
    → arguments_load ss (map (load (term_scope names)) ts) ≤ n → place_load (get_or ss i d) (load (term_scope names) t) ≤ n
load_at names [] ss i t d n h k e light = absurd (omega arith)
load_at names (x ∷ ts) [] i t d n h k e light = absurd (omega arith)
load_at names (x ∷ ts) (s ∷ ss) zero t d n h k e light = subst (λ (u : Term). place_load s (load (term_scope names) u) ≤ n) (sym e) (omega (arith, light))
load_at names (x ∷ ts) (s ∷ ss) (suc i) t d n h k e light = load_at names ts ss i t d n (omega arith) (omega arith) e (omega (arith, light))

pub light_at : (names : NameList) (ts : List Term) (ss : List Sort) (i : ℕ) (t : Term) (d : Sort) → i < length ts → i < length ss → t ≡ get_or ts i t
    → ArgumentsAreLight names ss ts → IsLightPlace (get_or ss i d) (load (term_scope names) t)
light_at names ts ss i t d h k e light = placed_load (get_or ss i d) (load (term_scope names) t) (load_at names ts ss i t d largest_offset h k e light)

-- the arguments of a function that is found
pub light_of : (names : NameList) (word : Word) (args : List Term) (at : ℕ) (signature : Signature) → position (bytes_eq word) (function_words names) ≡ Some at → slice_get names.signatures at ≡ Some signature
    → ArgumentsAreLight names (argument_sorts (function_profile names word)) args → ArgumentsAreLight names signature.args args
light_of names word args at signature found there light =
    let known = ap (λ (o : Option ℕ). argument_sorts (option_map profile_of (option_and_then (λ k. slice_get names.signatures k) o))) found ∙ ap (λ (o : Option Signature). argument_sorts (option_map profile_of o)) there in
    subst (λ (ss : List Sort). ArgumentsAreLight names ss args) known light

pub within_later : (before after : Ground) (atom : Atom) → Begins before after → IsLightWithin (term_scope before.names) atom → IsLightWithin (term_scope after.names) atom
within_later before after atom b h = record { left = light_later before after atom.left b h.left; right = light_later before after atom.right b h.right }

pub atoms_within_later : (before after : Ground) (atoms : List Atom) → Begins before after → All (IsLightWithin (term_scope before.names)) atoms → All (IsLightWithin (term_scope after.names)) atoms
atoms_within_later before after atoms b h = All-weaker (IsLightWithin (term_scope before.names)) (IsLightWithin (term_scope after.names)) (λ atom l. within_later before after atom b l) atoms h

pub no_more_later : (before after : Ground) (atom flat : Atom) → Begins before after → WeighsNoMore (term_scope after.names) atom flat → WeighsNoMore (term_scope before.names) atom flat
no_more_later before after atom flat b h = record { left = own_later before after atom.left (weight flat.left) b h.left; right = own_later before after atom.right (weight flat.right) b h.right }

-- ---- by the ways that terms are made
sum_load : (scope : Scope) (a b : Term) → load scope (Add a b) ≡ both_loads (load scope a) (load scope b)
sum_load scope a b = ap (load scope) (sym (rolls-Add a b)) ∙ fold-roll-Term Load (load_step (places_of scope)) (Term-F.Add a b)

sum_weight : (a b : Term) → weight (Add a b) ≡ weight a + weight b
sum_weight a b = ap weight (sym (rolls-Add a b)) ∙ fold-roll-Term ℕ weight_step (Term-F.Add a b)

pub sum_parts : (scope : Scope) (t a b : Term) → t ≡ Add a b → HasLightIndexes scope t → HasLightIndexes scope a × HasLightIndexes scope b
sum_parts scope t a b e h =
    let i = ap (λ (l : Load). l.indexes) (ap (load scope) e ∙ sum_load scope a b) in
    (omega (arith, h, i), omega (arith, h, i))

pub sum_light : (before mid : Ground) (t a b x y : Term) → Begins before mid → t ≡ Add a b → weight x ≤ (load (term_scope before.names) a).own → weight y ≤ (load (term_scope mid.names) b).own
    → weight (Add x y) ≤ (load (term_scope before.names) t).own
sum_light before mid t a b x y begins e less fewer =
    let own = ap (λ (l : Load). l.own) (ap (load (term_scope before.names)) e ∙ sum_load (term_scope before.names) a b) in
    let w = sum_weight x y in
    let last = own_later before mid b (weight y) begins fewer in
    omega (arith, own, w, less, last)

difference_load : (scope : Scope) (a b : Term) → load scope (Sub a b) ≡ both_loads (load scope a) (load scope b)
difference_load scope a b = ap (load scope) (sym (rolls-Sub a b)) ∙ fold-roll-Term Load (load_step (places_of scope)) (Term-F.Sub a b)

difference_weight : (a b : Term) → weight (Sub a b) ≡ weight a + weight b
difference_weight a b = ap weight (sym (rolls-Sub a b)) ∙ fold-roll-Term ℕ weight_step (Term-F.Sub a b)

pub difference_parts : (scope : Scope) (t a b : Term) → t ≡ Sub a b → HasLightIndexes scope t → HasLightIndexes scope a × HasLightIndexes scope b
difference_parts scope t a b e h =
    let i = ap (λ (l : Load). l.indexes) (ap (load scope) e ∙ difference_load scope a b) in
    (omega (arith, h, i), omega (arith, h, i))

pub difference_light : (before mid : Ground) (t a b x y : Term) → Begins before mid → t ≡ Sub a b → weight x ≤ (load (term_scope before.names) a).own → weight y ≤ (load (term_scope mid.names) b).own
    → weight (Sub x y) ≤ (load (term_scope before.names) t).own
difference_light before mid t a b x y begins e less fewer =
    let own = ap (λ (l : Load). l.own) (ap (load (term_scope before.names)) e ∙ difference_load (term_scope before.names) a b) in
    let w = difference_weight x y in
    let last = own_later before mid b (weight y) begins fewer in
    omega (arith, own, w, less, last)

negation_load : (scope : Scope) (a : Term) → load scope (Neg a) ≡ load scope a
negation_load scope a = ap (load scope) (sym (rolls-Neg a)) ∙ fold-roll-Term Load (load_step (places_of scope)) (Term-F.Neg a)

negation_weight : (a : Term) → weight (Neg a) ≡ weight a
negation_weight a = ap weight (sym (rolls-Neg a)) ∙ fold-roll-Term ℕ weight_step (Term-F.Neg a)

pub negation_light : (scope : Scope) (t a x : Term) → t ≡ Neg a → weight x ≤ (load scope a).own → weight (Neg x) ≤ (load scope t).own
negation_light scope t a x e less =
    let own = ap (λ (l : Load). l.own) (ap (load scope) e ∙ negation_load scope a) in
    let w = negation_weight x in
    omega (arith, own, w, less)

multiple_load : (scope : Scope) (q : ℚ) (a : Term) → load scope (Scale q a) ≡ both_loads (own_load (unsigned_abs q.num)) (load scope a)
multiple_load scope q a = ap (load scope) (sym (rolls-Scale q a)) ∙ fold-roll-Term Load (load_step (places_of scope)) (Term-F.Scale q a)

multiple_weight : (q : ℚ) (a : Term) → weight (Scale q a) ≡ unsigned_abs q.num + weight a
multiple_weight q a = ap weight (sym (rolls-Scale q a)) ∙ fold-roll-Term ℕ weight_step (Term-F.Scale q a)

pub multiple_light : (scope : Scope) (q : ℚ) (t a x : Term) → t ≡ Scale q a → weight x ≤ (load scope a).own → weight (Scale q x) ≤ (load scope t).own
multiple_light scope q t a x e less =
    let own = ap (λ (l : Load). l.own) (ap (load scope) e ∙ multiple_load scope q a) in
    let w = multiple_weight q x in
    omega (arith, own, w, less)

application_load : (scope : Scope) (func : Word) (args : List Term) → (load scope (Apply func args)).indexes ≡ arguments_load (places_of scope func) (map (load scope) args)
application_load scope func args =
    ap (λ (l : Load). l.indexes) (ap (load scope) (sym (rolls-Apply func args)) ∙ fold-roll-Term Load (load_step (places_of scope)) (Term-F.Apply func args))

pub application_parts : (names : NameList) (t : Term) (func : Word) (args : List Term) → t ≡ Apply func args → HasLightIndexes (term_scope names) t
    → ArgumentsAreLight names (argument_sorts (function_profile names func)) args
application_parts names t func args e h = subst (λ n. n ≤ largest_offset) (ap (λ (u : Term). (load (term_scope names) u).indexes) e ∙ application_load (term_scope names) func args) h

-- the arguments of an application whose numbers are small together
pub light_application : (names : NameList) (t : Term) (func : Word) (args slice : List Term) → t ≡ Apply func args → slice ≡ args → weight t ≤ largest_offset
    → ArgumentsAreLight names (argument_sorts (function_profile names func)) slice
light_application names t func args slice e is h =
    let within = load_within (term_scope names) t in
    let light : HasLightIndexes (term_scope names) t = omega (arith, h, within) in
    subst (ArgumentsAreLight names (argument_sorts (function_profile names func))) (sym is) (application_parts names t func args e light)

-- the right side of a difference, once the left one was named
pub difference_later : (before mid : Ground) (t a b x : Term) → Begins before mid → t ≡ Sub a b → x ≡ b → HasLightIndexes (term_scope before.names) t → HasLightIndexes (term_scope mid.names) x
difference_later before mid t a b x begins e is h =
    subst (HasLightIndexes (term_scope mid.names)) (sym is) (light_later before mid b begins (difference_parts (term_scope before.names) t a b e h).1)
