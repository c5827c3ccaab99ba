-- The arguments of an application fit each clause of its function, however large their numbers are.
use Rattle.std.proofs.Common.{◌≡◌, ◌∙◌, ◌⊎◌, inl, inr, ℕ, zero, suc, ◌≤◌, List, [], ◌∷◌, ◌++◌, map, length, take, Bool, true, false, ◌&&◌, Option, Some, refl, sym, ap, subst, arith}
use Rattle.std.specs.Prelude.{if◌then◌else◌, slice_get}
use Rattle.std.specs.List.{All, AllZip, Contains}
use Rattle.std.specs.Str.{bytes_eq}
use Rattle.std.proofs.lemmas.Bool.{and_parts}
use Rattle.std.proofs.lemmas.List.Elements.{All-contains, All-cons, All-head, All-nil, All-tail, All-weaker}
use Rattle.hp_tree.specs.Limits.{most_arguments}
use Rattle.hp_tree.specs.declared.term.Term.{Term, Apply, Name, Number, fold-roll-Term, map-Term, roll-Term}
use Rattle.hp_tree.specs.declared.term.Term.TheOpen.{Term-F}
use Rattle.hp_tree.specs.declared.term.Term.TheVariants.{rolls-Apply, rolls-Name, rolls-Number}
use Rattle.hp_tree.specs.declared.problem.Atom.{Atom}
use Rattle.hp_tree.specs.declared.problem.Sort.{Sort}
use Rattle.hp_tree.specs.declared.problem.Sort.TheVariants.{Num, Idx}
use Rattle.hp_tree.specs.declared.problem.Var.{Var}
use Rattle.hp_tree.specs.Value.{Word}
use Rattle.hp_terms.specs.declared.forms.Forms.{Forms}
use Rattle.hp_terms.specs.Scope.{Profile, Scope}
use Rattle.hp_terms.specs.Sorting.{application_forms, atom_is_sorted, fit, forms_of, forms_step, has_form, no_forms, relates, sort_forms, sort_of}
use Rattle.hp_lit.specs.declared.line.Arg.{Arg}
use Rattle.hp_lit.specs.declared.line.Arg.TheVariants as arg
use Rattle.hp_defs.specs.declared.names.Signature.{Signature}
use Rattle.hp_defs.specs.Fit.{ArgFits, IsFitNames}
use Rattle.hp_defs.specs.Made.{IsMade, IsSmallArg}
use Rattle.hp_defs.specs.Names.{NameList, profile_of, sorts}
use Rattle.hp_local.specs.Rows.{argument_words}
use Rattle.hp_local.specs.Substitution.{substitute, substitute_atom, substitute_step}
use Rattle.hp_local.proofs.Lists.{All-by, contains_cases, contains_none, map_contains}
use Rattle.hp_base.specs.Congruence.{Point}
use Rattle.hp_norm.specs.declared.flat.FlatClause.{FlatClause}
use Rattle.hp_norm.specs.Flat.{IsFlat}
use Rattle.hp_norm.specs.Loads.{IsLightWithin, Load, argument_sorts, arguments_load, load, load_step, places_of}
use Rattle.hp_norm.specs.Scopes.{clause_scope, term_scope}
use Rattle.hp_instance.specs.declared.tuple.Tuple.{Tuple}
use Rattle.hp_instance.specs.Laws.{IsLightAt, TupleFits}
use Rattle.hp_instance.specs.Replacing.{arg_term, arg_terms, name_word, replaced_word, replacement}
use Rattle.hp_class.specs.Frame.{is_function}
use Rattle.hp_class.specs.Points.{points}
use Rattle.hp_class.proofs.Points.{are_points}
use Rattle.hp_flatten.specs.declared.application.Application.{Application}
use Rattle.hp_flatten.specs.Applications.{applications, atoms_applications}
use Rattle.hp_flatten.specs.Flattening.{argument_names, argument_var, argument_vars}
use Rattle.hp_flatten.specs.Laws.{AreNum}
use Rattle.hp_cases.specs.declared.case.Bound.{Bound}
use Rattle.hp_cases.specs.Cases.{AppliesThese, IsLowerFunction, bound_term, point_tuple}
use Rattle.hp_cases.proofs.Applied.{both_none, lower_terms, none_lower}
use Rattle.hp_cases.proofs.Functions.{lower_word, profile_is}
use Rattle.hp_cases.proofs.Heads.{IsHead, IsOnLeft, IsOnRight}

-- ---- words of arguments
pub words_count : (count : ℕ) → count ≤ most_arguments → length (take count argument_words) ≡ count
words_count zero h = refl
words_count (suc zero) h = refl
words_count (suc (suc zero)) h = refl
words_count (suc (suc (suc zero))) h = refl
words_count (suc (suc (suc (suc zero)))) h = refl
words_count (suc (suc (suc (suc (suc n))))) h = absurd (omega (arith, h))

-- ---- num arguments
abbrev pub AreNumArgs : List Sort → List Arg → Type 0
AreNumArgs ss [] = Unit {0}
AreNumArgs ss (x ∷ xs) = ArgFits ss Num x × AreNumArgs ss xs

pub num_args : (ss places : List Sort) (args : List Arg) → AreNum places → AllZip (ArgFits ss) places args → AreNumArgs ss args
num_args ss [] [] n h = tt
num_args ss [] (x ∷ xs) n h = absurd h
num_args ss (s ∷ places) [] n h = absurd h
num_args ss (s ∷ places) (x ∷ xs) n h =
    (subst (λ z. ArgFits ss z x) (All-head (λ z. z ≡ Num) s places n) h.0, num_args ss places xs (All-tail (λ z. z ≡ Num) s places n) h.1)

vars_fit : (ss : List Sort) (words : List Word) (args : List Arg) → length words ≡ length args → AreNumArgs ss args → AllZip (λ (v : Var) x. ArgFits ss v.sort x) (map argument_var words) args
vars_fit ss [] [] e h = tt
vars_fit ss [] (x ∷ xs) e h = absurd (omega (arith, e))
vars_fit ss (w ∷ ws) [] e h = absurd (omega (arith, e))
vars_fit ss (w ∷ ws) (x ∷ xs) e h = (h.0, vars_fit ss ws xs (omega (arith, e)) h.1)

one_small : (ss : List Sort) (x : Arg) → ArgFits ss Num x → IsSmallArg x
one_small ss (arg.Number q) h = tt
one_small ss (arg.Named name) h = tt
one_small ss (arg.Index base offset) h = absurd h
one_small ss arg.Null h = absurd h

all_small : (ss : List Sort) (args : List Arg) → AreNumArgs ss args → All IsSmallArg args
all_small ss [] h = All-nil IsSmallArg
all_small ss (x ∷ xs) h = All-cons IsSmallArg x xs (one_small ss x h.0) (all_small ss xs h.1)

pub zip_length : {A B : Type 0} (R : A → B → Type 0) (xs : List A) (ys : List B) → AllZip R xs ys → length ys ≡ length xs
zip_length R [] [] h = refl
zip_length R [] (y ∷ ys) h = absurd h
zip_length R (x ∷ xs) [] h = absurd h
zip_length R (x ∷ xs) (y ∷ ys) h = ap suc (zip_length R xs ys h.1)

-- ---- loads
module _ (scope : Scope) where
  load_of : (y : Term-F Term) (t : Term) → roll-Term y ≡ t → load scope t ≡ load_step (places_of scope) (map-Term Term Load (load scope) y)
  load_of y t e = ap (load scope) (sym e) ∙ fold-roll-Term Load (load_step (places_of scope)) y

  name_load : (word : Word) → (load scope (Name word)).indexes ≡ 0
  name_load word = ap (λ (l : Load). l.indexes) (load_of (Term-F.Name word) (Name word) (rolls-Name word))

  arg_load : (names : NameList) (ss : List Sort) (x : Arg) → ArgFits ss Num x → (load scope (arg_term names x)).indexes ≡ 0
  arg_load names ss (arg.Number q) h = ap (λ (l : Load). l.indexes) (load_of (Term-F.Number q) (Number q) (rolls-Number q))
  arg_load names ss (arg.Named name) h = name_load (name_word names name)
  arg_load names ss (arg.Index base offset) h = absurd h
  arg_load names ss arg.Null h = absurd h

  pub word_load : (names : NameList) (ss : List Sort) (vars : List Var) (args : List Arg) → AreNumArgs ss args → (word : Word) → (load scope (replaced_word vars (arg_terms names args) word)).indexes ≡ 0
  word_load names ss [] args h word = name_load word
  word_load names ss (v ∷ vars) [] h word = name_load word
  word_load names ss (v ∷ vars) (x ∷ args) h word =
      elim (bytes_eq v.name word) as (λ b. (load scope (if b then arg_term names x else replaced_word vars (arg_terms names args) word)).indexes ≡ 0) [
        | true ↦ arg_load names ss x h.0
        | false ↦ word_load names ss vars args h.1 word
      ]

  module _ (r : Word → Term) (light : (word : Word) → (load scope (r word)).indexes ≡ 0) where
    abbrev IsLight : Term → Type 0
    IsLight t = (load scope (substitute r t)).indexes ≡ 0

    replaced : (y : Term-F Term) (z : Term-F Term) → substitute r (roll-Term y) ≡ roll-Term z → (load_step (places_of scope) (map-Term Term Load (load scope) z)).indexes ≡ 0 → IsLight (roll-Term y)
    replaced y z is h = ap (λ t. (load scope t).indexes) is ∙ ap (λ (l : Load). l.indexes) (load_of z (roll-Term z) refl) ∙ h

    fold : (y : Term-F Term) → substitute r (roll-Term y) ≡ substitute_step r (map-Term Term Term (substitute r) y)
    fold y = fold-roll-Term Term (substitute_step r) y

    args_load : (places : List Sort) (args : List Term) → AreNum places → All IsLight args → arguments_load places (map (load scope) (map (substitute r) args)) ≡ 0
    args_load places [] n h = refl
    args_load [] (t ∷ args) n h = (let x = All-head IsLight t args h in let k = args_load [] args n (All-tail IsLight t args h) in omega (arith, x, k))
    args_load (s ∷ places) (t ∷ args) n h =
        let x = All-head IsLight t args h in
        let k = args_load places args (All-tail (λ z. z ≡ Num) s places n) (All-tail IsLight t args h) in
        subst (λ z. arguments_load (z ∷ places) (map (load scope) (map (substitute r) (t ∷ args))) ≡ 0) (sym (All-head (λ z. z ≡ Num) s places n)) (omega (arith, x, k))

    abbrev pub Lower : Application → Type 0
    Lower a = AreNum (places_of scope a.func)

    pub lower_light : (t : Term) → All Lower (applications t) → IsLight t
    lower_light t e = lower_terms Lower IsLight (record {
      number = λ q. replaced (Term-F.Number q) (Term-F.Number q) (fold (Term-F.Number q)) refl;
      null = replaced Term-F.Null Term-F.Null (fold Term-F.Null) refl;
      name = λ word. ap (λ t. (load scope t).indexes) (fold (Term-F.Name word)) ∙ light word;
      apply = λ func args n h. replaced (Term-F.Apply func args) (Term-F.Apply func (map (substitute r) args)) (fold (Term-F.Apply func args)) (args_load (places_of scope func) args n h);
      add = λ a b h k. replaced (Term-F.Add a b) (Term-F.Add (substitute r a) (substitute r b)) (fold (Term-F.Add a b)) (omega (arith, h, k));
      subtract = λ a b h k. replaced (Term-F.Sub a b) (Term-F.Sub (substitute r a) (substitute r b)) (fold (Term-F.Sub a b)) (omega (arith, h, k));
      neg = λ a h. replaced (Term-F.Neg a) (Term-F.Neg (substitute r a)) (fold (Term-F.Neg a)) h;
      scale = λ q a h. replaced (Term-F.Scale q a) (Term-F.Scale q (substitute r a)) (fold (Term-F.Scale q a)) (omega (arith, h));
    }) t e

    pub bare_light : (t : Term) → applications t ≡ [] → IsLight t
    bare_light t e = lower_light t (none_lower Lower t e)

    substituted_name : (word : Word) → IsLight (Name word)
    substituted_name word = ap (λ t. (load scope (substitute r t)).indexes) (sym (rolls-Name word)) ∙ ap (λ t. (load scope t).indexes) (fold (Term-F.Name word)) ∙ light word

    names_light : (words : List Word) → All IsLight (map Name words)
    names_light [] = All-nil IsLight
    names_light (w ∷ ws) = All-cons IsLight (Name w) (map Name ws) (substituted_name w) (names_light ws)

    pub value_light : (func : Word) (words : List Word) → AreNum (places_of scope func) → IsLight (Apply func (map Name words))
    value_light func words n =
        let args = map Name words in
        ap (λ t. (load scope (substitute r t)).indexes) (sym (rolls-Apply func args))
        ∙ replaced (Term-F.Apply func args) (Term-F.Apply func (map (substitute r) args)) (fold (Term-F.Apply func args)) (args_load (places_of scope func) args n (names_light words))

-- ---- sorts
forms_not_idx : (b : Bool) → has_form (if b then sort_forms Num else no_forms) Idx ≡ true → ⊥
forms_not_idx true e = cc
forms_not_idx false e = cc

value_not_idx : (scope : Scope) (func : Word) (args : List Term) (p : Profile) → scope.function func ≡ Some p → p.result ≡ Num → has_form (forms_of scope (Apply func args)) Idx ≡ true → ⊥
value_not_idx scope func args p known num e =
    forms_not_idx (fit (map (forms_of scope) args) p.args)
    (sym (ap (λ f. has_form f Idx) (ap (forms_of scope) (sym (rolls-Apply func args)) ∙ fold-roll-Term Forms (forms_step scope) (Term-F.Apply func args)
    ∙ ap (application_forms (map (forms_of scope) args)) known ∙ ap (λ s. if fit (map (forms_of scope) args) p.args then sort_forms s else no_forms) num)) ∙ e)

-- ---- members
pub bare_member : (atoms : List Atom) (a : Atom) → Contains atoms a → atoms_applications atoms ≡ [] → (applications a.left ≡ []) × (applications a.right ≡ [])
bare_member [] a m e = absurd (contains_none a m)
bare_member (b ∷ atoms) a m e =
    let w = both_none (applications b.left ++ applications b.right) (atoms_applications atoms) e in
    elim (contains_cases b atoms a m) [
      | inl same ↦ subst (λ (x : Atom). (applications x.left ≡ []) × (applications x.right ≡ [])) same (both_none (applications b.left) (applications b.right) w.0)
      | inr n ↦ bare_member atoms a n w.1
    ]

-- ---- one clause
module _ (names : NameList) (made : IsMade names) (fit : IsFitNames names) (func : ℕ) (s : Signature) (known : slice_get names.signatures func ≡ Some s) (nums : AreNum s.args) (result_is : s.result ≡ Num)
    (count : ℕ) (few : count ≤ most_arguments) (counted : length s.args ≡ count) (applied : List ℕ) (lower : All (IsLowerFunction names) applied) where
  num_places : (f : ℕ) (t : Signature) → slice_get names.signatures f ≡ Some t → AreNum t.args → AreNum (places_of (term_scope names) t.name)
  num_places f t there n = subst (λ (o : Option Profile). AreNum (argument_sorts o)) (sym (profile_is names made.functions f t there)) n

  lower_places : (t : Term) → AppliesThese names applied t → All (λ (a : Application). AreNum (places_of (term_scope names) a.func)) (applications t)
  lower_places t h =
      All-weaker (λ (a : Application). is_function names applied a.func ≡ true) (λ (a : Application). AreNum (places_of (term_scope names) a.func))
      (λ a e. let l = lower_word names applied lower a.func e in subst (λ (w : Word). AreNum (places_of (term_scope names) w)) l.name (num_places l.func l.signature l.known l.nums)) (applications t) h

  places_num : AreNum (places_of (term_scope names) s.name)
  places_num = num_places func s known nums

  pub point_args : (p : Point) → Contains (points func names.definitions) p → AreNumArgs (sorts names) p.args × (length p.args ≡ count)
  point_args p m =
      let is = are_points names made fit func s known p m in
      (num_args (sorts names) s.args p.args nums is.args, zip_length (ArgFits (sorts names)) s.args p.args is.args ∙ counted)

  module _ (c : FlatClause) (vars_are : c.vars ≡ argument_vars count) (flat : IsFlat names c) (guard_num : All (λ a. sort_of (clause_scope names c.vars) a ≡ Num) c.guard)
      (bare : atoms_applications c.guard ≡ []) (bound : Bound) (head : IsHead s.name count c.head bound) (applies : AppliesThese names applied (bound_term bound)) (args : List Arg) (are_num : AreNumArgs (sorts names) args) (many : length args ≡ count) where
    abbrev r : Word → Term
    r = replacement names c.vars args

    light : (word : Word) → (load (term_scope names) (r word)).indexes ≡ 0
    light word = word_load (term_scope names) names (sorts names) c.vars args are_num word

    inner : (a : Atom) → (load (term_scope names) (substitute r a.left)).indexes ≡ 0 → (load (term_scope names) (substitute r a.right)).indexes ≡ 0 → IsLightWithin (term_scope names) (substitute_atom r a)
    inner a h k = record { left = omega (arith, h); right = omega (arith, k) }

    guard_light : (a : Atom) → Contains c.guard a → IsLightAt names c args a
    guard_light a m =
        let w = bare_member c.guard a m bare in
        record {
          inner = inner a (bare_light (term_scope names) r light a.left w.0) (bare_light (term_scope names) r light a.right w.1);
          sides = λ e. absurd (let n = All-contains (λ x. sort_of (clause_scope names c.vars) x ≡ Num) c.guard a guard_num m in let both : Num ≡ Idx = sym n ∙ e in cc);
        }

    abbrev IsLightSide : Term → Type 0
    IsLightSide t = (load (term_scope names) (substitute r t)).indexes ≡ 0

    bound_light : IsLightSide (bound_term bound)
    bound_light = lower_light (term_scope names) r light (bound_term bound) (lower_places (bound_term bound) applies)

    function_light : (t : Term) → t ≡ Apply s.name (argument_names count) → IsLightSide t
    function_light t is = ap (λ t. (load (term_scope names) (substitute r t)).indexes) is ∙ value_light (term_scope names) r light s.name (take count argument_words) places_num

    value_at : IsOnLeft s.name count head.atom bound ⊎ IsOnRight s.name count head.atom bound → IsLightSide head.atom.left × IsLightSide head.atom.right
    value_at (inl h) = (function_light head.atom.left h.left, subst IsLightSide h.other bound_light)
    value_at (inr h) = (subst IsLightSide h.other bound_light, function_light head.atom.right h.right)

    abbrev scope : Scope
    scope = clause_scope names c.vars

    abbrev has : Term → Bool
    has t = has_form (forms_of scope t) Idx

    by_side : (has head.atom.left ≡ true) → (has head.atom.right ≡ true) → IsOnLeft s.name count head.atom bound ⊎ IsOnRight s.name count head.atom bound → ⊥
    by_side x y (inl h) = value_not_idx scope s.name (argument_names count) (profile_of s) (profile_is names made.functions func s known) result_is (subst (λ t. has t ≡ true) h.left x)
    by_side x y (inr h) = value_not_idx scope s.name (argument_names count) (profile_of s) (profile_is names made.functions func s known) result_is (subst (λ t. has t ≡ true) h.right y)

    not_idx : IsOnLeft s.name count head.atom bound ⊎ IsOnRight s.name count head.atom bound → atom_is_sorted scope head.atom ≡ true → sort_of scope head.atom ≡ Idx → ⊥
    not_idx side sorted e =
        let is : (has head.atom.left && has head.atom.right) && relates Idx head.atom.cmp ≡ true =
        subst (λ z. (has_form (forms_of scope head.atom.left) z && has_form (forms_of scope head.atom.right) z) && relates z head.atom.cmp ≡ true) e sorted in
        let both = and_parts (has head.atom.left) (has head.atom.right) (and_parts (has head.atom.left && has head.atom.right) (relates Idx head.atom.cmp) is).0 in
        by_side both.0 both.1 side

    head_sorted : atom_is_sorted (clause_scope names c.vars) head.atom ≡ true
    head_sorted = All-head (λ a. atom_is_sorted (clause_scope names c.vars) a ≡ true) head.atom [] (subst (λ (bs : List Atom). All (λ a. atom_is_sorted (clause_scope names c.vars) a ≡ true) bs) head.head_is flat.head)

    head_light : IsLightAt names c args head.atom
    head_light =
        let w = value_at head.side in
        record { inner = inner head.atom w.0 w.1; sides = λ e. absurd (not_idx head.side head_sorted e) }

    pub arguments_fit : TupleFits names c args
    arguments_fit = record {
      sorted = subst (λ (vs : List Var). AllZip (λ (v : Var) x. ArgFits (sorts names) v.sort x) vs args) (sym vars_are)
          (vars_fit (sorts names) (take count argument_words) args (words_count count few ∙ sym many) are_num);
      small = all_small (sorts names) args are_num;
      guard = All-by (IsLightAt names c args) c.guard guard_light;
      head = subst (λ (bs : List Atom). All (IsLightAt names c args) bs) (sym head.head_is) (All-cons (IsLightAt names c args) head.atom [] head_light (All-nil (IsLightAt names c args)));
    }

  pub points_fit : (c : FlatClause) → c.vars ≡ argument_vars count → IsFlat names c → All (λ a. sort_of (clause_scope names c.vars) a ≡ Num) c.guard → atoms_applications c.guard ≡ [] → (bound : Bound)
      → IsHead s.name count c.head bound → AppliesThese names applied (bound_term bound)
      → All (λ (t : Tuple). TupleFits names c t.args) (map point_tuple (points func names.definitions))
  points_fit c vars_are flat guard_num bare bound head applies =
      All-by (λ (t : Tuple). TupleFits names c t.args) (map point_tuple (points func names.definitions))
      (λ t k. (let w = map_contains point_tuple (points func names.definitions) t k in
      let a = point_args w.0 w.1 in
      subst (λ (z : Tuple). TupleFits names c z.args) w.2 (arguments_fit c vars_are flat guard_num bare bound head applies w.0.args a.0 a.1)))
