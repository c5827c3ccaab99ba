-- The index set stays while own functions are applied along it.
use Rattle.std.proofs.Common.{◌≡◌, ◌∙◌, ℕ, Bool, true, false, ◌||◌, pos, neg_ℤ, List, [], ◌∷◌, ◌++◌, length, None, refl, sym, ap, subst, arith, append_assoc, append-nil, length-append}
use Rattle.std.specs.Prelude.{if◌then◌else◌}
use Rattle.std.specs.List.{All, Contains, flat_map, list_any}
use Rattle.std.proofs.lemmas.List.{append_cancel_left}
use Rattle.std.proofs.lemmas.List.Concat.{flat_map-append}
use Rattle.std.proofs.lemmas.List.Elements.{All-nil, All-cons, All-head, All-tail, All-append}
use Rattle.std.proofs.lemmas.List.Folds.{list_any-append}
use Rattle.hp_tree.specs.declared.problem.Atom.{Atom}
use Rattle.hp_tree.specs.declared.problem.Sort.{Sort}
use Rattle.hp_tree.specs.declared.problem.Sort.TheVariants as sort
use Rattle.hp_terms.specs.Sorting.{sort_of}
use Rattle.hp_lit.specs.Growing.{Begins}
use Rattle.hp_lit.specs.declared.literal.IdxLit.{IdxLit}
use Rattle.hp_lit.specs.declared.literal.Lit.{Lit}
use Rattle.hp_lit.specs.declared.literal.Lit.TheVariants as lit
use Rattle.hp_lit.specs.declared.line.Arg.{Arg}
use Rattle.hp_lit.specs.declared.line.Arg.TheVariants.{Index}
use Rattle.hp_lit.specs.declared.line.Def.{Def}
use Rattle.hp_defs.specs.Names.{BeginsNames, NameList, count}
use Rattle.hp_index.specs.Literals.{literals}
use Rattle.hp_norm.specs.Scopes.{clause_scope}
use Rattle.hp_norm.specs.declared.flat.FlatClause.{FlatClause}
use Rattle.hp_index_set.specs.IndexSet.{applied_at, atom_bounds, body_indexes, bounds_between, clause_words, guard_bounds, index_set, is_variable, literal_bounds, or_zero, same_index, sorted_bounds, with_index, with_indexes}
use Rattle.hp_index_set.specs.Laws.{applied_indexes}
use Rattle.hp_index_set.proofs.Adding.{added_append}
use Rattle.hp_index_set.proofs.Among.{same_index_itself}

-- ---- indexes
abbrev pub IsIndex : Arg → Type 0
IsIndex x = same_index x x ≡ true

all_joined : {X : Type 0} (f : X → List Arg) (xs : List X) → ((x : X) → All IsIndex (f x)) → All IsIndex (flat_map f xs)
all_joined f [] each = All-nil IsIndex
all_joined f (x ∷ xs) each = All-append IsIndex (f x) (flat_map f xs) (each x) (all_joined f xs each)

between_indexes : (left right : Bool) (l : IdxLit) → All IsIndex (bounds_between left right l)
between_indexes true false l = All-cons IsIndex (Index l.right l.bound) [] (same_index_itself l.right l.bound) (All-nil IsIndex)
between_indexes false true l = All-cons IsIndex (Index l.left (neg_ℤ l.bound)) [] (same_index_itself l.left (neg_ℤ l.bound)) (All-nil IsIndex)
between_indexes true true l = All-nil IsIndex
between_indexes false false l = All-nil IsIndex

literal_indexes : (names : ℕ) (l : Lit) → All IsIndex (literal_bounds names l)
literal_indexes names (lit.Idx l) = between_indexes (is_variable names l.left) (is_variable names l.right) l
literal_indexes names (lit.Num l) = All-nil IsIndex
literal_indexes names (lit.Ptr l) = All-nil IsIndex

sorted_indexes : (s : Sort) (names : NameList) (c : FlatClause) (atom : Atom) → All IsIndex (sorted_bounds s names c atom)
sorted_indexes sort.Idx names c atom = all_joined (literal_bounds (count names)) (literals (clause_words names c) true atom) (literal_indexes (count names))
sorted_indexes sort.Num names c atom = All-nil IsIndex
sorted_indexes sort.Ptr names c atom = All-nil IsIndex

-- bounds are indexes
pub bounds_indexes : (names : NameList) (clauses : List FlatClause) → All IsIndex (flat_map (guard_bounds names) clauses)
bounds_indexes names clauses =
    all_joined (guard_bounds names) clauses (λ c. all_joined (atom_bounds names c) c.guard (λ atom. sorted_indexes (sort_of (clause_scope names c.vars) atom) names c atom))

-- ---- fronts
-- what was there stays in front
pub begins_with : (old more : List Arg) → (rest : List Arg) × (with_indexes old more ≡ old ++ rest)
begins_with old [] = ([], sym (append-nil old))
begins_with old (x ∷ more) = by (list_any (same_index x) old) (begins_with old more) (begins_with (old ++ x ∷ []) more)
  where
    by : (b : Bool) → (rest : List Arg) × (with_indexes old more ≡ old ++ rest) → (rest : List Arg) × (with_indexes (old ++ x ∷ []) more ≡ (old ++ x ∷ []) ++ rest)
        → (rest : List Arg) × (with_indexes (if b then old else old ++ x ∷ []) more ≡ old ++ rest)
    by true there new = there
    by false there new = (x ∷ new.0, new.1 ∙ append_assoc old (x ∷ []) new.0)

no_more : (old ps rest : List Arg) → old ≡ (old ++ ps) ++ rest → ps ≡ []
no_more old [] rest e = refl
no_more old (p ∷ ps) rest e = absurd (let l = ap (λ (xs : List Arg). length xs) e in omega (arith, l, length-append (old ++ p ∷ ps) rest, length-append old (p ∷ ps)))

first_is : (x y : Arg) (xs ys : List Arg) → x ∷ xs ≡ y ∷ ys → x ≡ y
first_is x y xs ys e = cc

-- with some of those that come, in their order, the same come
abbrev Over : List Arg → List Arg → Type 0
Over bounds rest = (old ps : List Arg) → with_indexes old bounds ≡ (old ++ ps) ++ rest → with_indexes (old ++ ps) bounds ≡ with_indexes old bounds

module _ (b : Arg) (bs rest : List Arg) (is : IsIndex b) (later : Over bs rest) where
  new_over : (old ps : List Arg) → list_any (same_index b) old ≡ false → with_indexes (old ++ b ∷ []) bs ≡ (old ++ ps) ++ rest → with_indexes (with_index (old ++ ps) b) bs ≡ with_indexes (old ++ b ∷ []) bs
  new_over old [] f g = ap (λ (xs : List Arg). with_indexes (with_index xs b) bs) (append-nil old) ∙ ap (λ (u : Bool). with_indexes (if u then old else old ++ b ∷ []) bs) f
  new_over old (q ∷ qs) f g =
      let h = begins_with (old ++ b ∷ []) bs in
      let lists : b ∷ h.0 ≡ q ∷ (qs ++ rest) = append_cancel_left old (b ∷ h.0) (q ∷ (qs ++ rest)) (sym (append_assoc old (b ∷ []) h.0) ∙ sym h.1 ∙ g ∙ append_assoc old (q ∷ qs) rest) in
      let same : b ≡ q = first_is b q h.0 (qs ++ rest) lists in
      let whole : old ++ q ∷ qs ≡ (old ++ b ∷ []) ++ qs = ap (λ (z : Arg). old ++ z ∷ qs) (sym same) ∙ sym (append_assoc old (b ∷ []) qs) in
      let one : same_index b q ≡ true = subst (λ (z : Arg). same_index b z ≡ true) same is in
      let there : list_any (same_index b) (old ++ q ∷ qs) ≡ true = list_any-append (same_index b) old (q ∷ qs) ∙ (λ i. f i || (one i || list_any (same_index b) qs)) in
      ap (λ (u : Bool). with_indexes (if u then old ++ q ∷ qs else (old ++ q ∷ qs) ++ b ∷ []) bs) there
      ∙ ap (λ (xs : List Arg). with_indexes xs bs) whole
      ∙ later (old ++ b ∷ []) qs (g ∙ ap (λ (xs : List Arg). xs ++ rest) whole)

  one_over : Over (b ∷ bs) rest
  one_over old ps e = by (list_any (same_index b) old) refl e
    where
      by : (t : Bool) → list_any (same_index b) old ≡ t → with_indexes (if t then old else old ++ b ∷ []) bs ≡ (old ++ ps) ++ rest
          → with_indexes (with_index (old ++ ps) b) bs ≡ with_indexes (if t then old else old ++ b ∷ []) bs
      by true f g =
          let there : list_any (same_index b) (old ++ ps) ≡ true = list_any-append (same_index b) old ps ∙ ap (λ (u : Bool). u || list_any (same_index b) ps) f in
          ap (λ (u : Bool). with_indexes (if u then old ++ ps else (old ++ ps) ++ b ∷ []) bs) there ∙ later old ps g
      by false f g = new_over old ps f g

kept_over : (bounds rest : List Arg) → All IsIndex bounds → Over bounds rest
kept_over [] rest all old ps e = ap (λ (xs : List Arg). old ++ xs) (no_more old ps rest e) ∙ append-nil old
kept_over (b ∷ bs) rest all old ps e = one_over b bs rest (All-head IsIndex b bs all) (kept_over bs rest (All-tail IsIndex b bs all)) old ps e

-- ---- 0 alone
pub none_added : (old bounds : List Arg) → with_indexes old bounds ≡ [] → (old ≡ []) × (bounds ≡ [])
none_added [] [] e = (refl, refl)
none_added [] (b ∷ bs) e = absurd (let h = begins_with (b ∷ []) bs in let l = ap (λ (xs : List Arg). length xs) (sym e ∙ h.1) in omega arith)
none_added (a ∷ old) bounds e = absurd (let h = begins_with (a ∷ old) bounds in let l = ap (λ (xs : List Arg). length xs) (sym e ∙ h.1) in omega arith)

alone : (ps rest : List Arg) → Index None (pos 0) ∷ [] ≡ ps ++ rest → or_zero ps ≡ Index None (pos 0) ∷ []
alone [] rest e = refl
alone (p ∷ []) rest e = ap (λ (x : Arg). x ∷ []) (sym (first_is (Index None (pos 0)) p [] rest e))
alone (p ∷ q ∷ ps) rest e = absurd (let l = ap (λ (xs : List Arg). length xs) e in omega arith)

kept : (bounds old ps rest : List Arg) → All IsIndex bounds → or_zero (with_indexes old bounds) ≡ (old ++ ps) ++ rest → or_zero (with_indexes (old ++ ps) bounds) ≡ or_zero (with_indexes old bounds)
kept bounds old ps rest all h = by (with_indexes old bounds) refl h
  where
    by : (found : List Arg) → with_indexes old bounds ≡ found → or_zero found ≡ (old ++ ps) ++ rest → or_zero (with_indexes (old ++ ps) bounds) ≡ or_zero found
    by (x ∷ found) e g = ap or_zero (kept_over bounds rest all old ps (e ∙ g) ∙ e)
    by [] e g =
        let none = none_added old bounds e in
        (λ i. or_zero (with_indexes (none.0 i ++ ps) (none.1 i))) ∙ alone ps rest (g ∙ (λ i. (none.0 i ++ ps) ++ rest))

-- ---- the index set
-- where the bounds of guards stay, and the applications go along the index set
pub kept_with_bounds : (own : List ℕ) (clauses : List FlatClause) (before after : NameList) → BeginsNames before after
    → flat_map (guard_bounds after) clauses ≡ flat_map (guard_bounds before) clauses → Begins (applied_indexes own after) (index_set own clauses before)
    → index_set own clauses after ≡ index_set own clauses before
kept_with_bounds own clauses before after b same front =
    let old = applied_indexes own before in
    let bounds = flat_map (guard_bounds before) clauses in
    let more = applied_at own b.definitions.more in
    let h = begins_with old more in
    let grown : applied_indexes own after ≡ old ++ h.0 =
    ap (λ (ds : List Def). with_indexes [] (applied_at own ds)) b.definitions.all
    ∙ ap (λ (xs : List Arg). with_indexes [] xs) (flat_map-append (λ (d : Def). body_indexes own d.body) before.definitions b.definitions.more)
    ∙ added_append [] (applied_at own before.definitions) more ∙ h.1 in
    (λ i. or_zero (with_indexes (grown i) (same i)))
    ∙ kept bounds old h.0 front.more (bounds_indexes before clauses) (front.all ∙ ap (λ (xs : List Arg). xs ++ front.more) grown)
