-- The arguments of two applications of a monotone function fit its clause, however large their numbers are.
use Rattle.std.proofs.Common.{◌≡◌, ℕ, List, [], ◌∷◌, Bool, true, false, cond, map, Option, Some, option_map, refl, sym, ap, subst, ◌∙◌, arith}
use Rattle.std.specs.Prelude.{option_and_then, slice_get, unwrap_or}
use Rattle.std.specs.Option.{option_or}
use Rattle.std.specs.List.{All, AllZip, Contains}
use Rattle.std.specs.Str.{bytes_eq}
use Rattle.std.proofs.Common.{position}
use Rattle.std.proofs.lemmas.List.Elements.{All-cons, All-nil, All-weaker}
use Rattle.hp_tree.specs.declared.term.Term.{Term, Name, Apply, Number, fold-roll-Term, map-Term, roll-Term}
use Rattle.hp_tree.specs.declared.term.Term.TheOpen.{Term-F}
use Rattle.hp_tree.specs.declared.term.Term.TheVariants.{rolls-Apply, rolls-Name, rolls-Number}
use Rattle.hp_tree.specs.declared.problem.Atom.{Atom}
use Rattle.hp_tree.specs.declared.problem.Sort.{Sort}
use Rattle.hp_tree.specs.declared.problem.Sort.TheVariants.{Num, Idx}
use Rattle.hp_tree.specs.declared.problem.Var.{Var}
use Rattle.hp_tree.specs.Universal.{Universal}
use Rattle.hp_tree.specs.Value.{Word}
use Rattle.hp_terms.specs.Scope.{Profile, Scope}
use Rattle.hp_terms.specs.Sorting.{first_sort, first_step, sort_of}
use Rattle.hp_lit.specs.declared.line.Arg.{Arg}
use Rattle.hp_lit.specs.declared.line.Arg.TheVariants as arg
use Rattle.hp_defs.specs.declared.names.Signature.{Signature}
use Rattle.hp_defs.specs.Fit.{ArgFits, IsFitNames}
use Rattle.hp_defs.specs.Made.{IsMade, IsSmallArg}
use Rattle.hp_defs.specs.Names.{NameList, function_words, profile_of, signature_name, sorts}
use Rattle.hp_defs.proofs.Distinct.{position_of}
use Rattle.hp_local.specs.Monotone.{Shape, at_most, lower_term, shape_clause, shape_head, upper_term}
use Rattle.hp_local.specs.Substitution.{substitute, substitute_atom}
use Rattle.hp_local.proofs.Lists.{All-by, contains_first, map_contains}
use Rattle.hp_local.proofs.Steps.{same_bytes}
use Rattle.hp_base.specs.Congruence.{Point}
use Rattle.hp_base.proofs.ArgsDefined.{get_map}
use Rattle.hp_norm.specs.declared.flat.FlatClause.{FlatClause}
use Rattle.hp_norm.specs.Scopes.{clause_scope, function_profile, term_scope}
use Rattle.hp_instance.specs.declared.tuple.Tuple.{Tuple}
use Rattle.hp_norm.specs.Flat.{universal_of}
use Rattle.hp_instance.specs.Laws.{IsLightAt, TupleFits}
use Rattle.hp_norm.specs.Loads.{IsLightWithin, Load, argument_sorts, arguments_load, load, load_step, places_of}
use Rattle.hp_instance.specs.Replacing.{arg_term, name_word, replacement}
use Rattle.hp_class.specs.Group.{PlanFits, Planned, PlannedFits}
use Rattle.hp_class.specs.Points.{points}
use Rattle.hp_class.proofs.Points.{are_points}
use Rattle.hp_shapes.specs.declared.shape.Form.{Form}
use Rattle.hp_tables.specs.Classes.{IsMonotone}
use Rattle.hp_tables.specs.Pairs.{PairsFit, first_arg, ordered_pairs, pair_tuple, pairs_plan}
use Rattle.hp_tables.proofs.Kept.{one_argument}
use Rattle.hp_tables.proofs.OrderedPairs.{pairs_inside}
use Rattle.hp_tables.proofs.Written.{written}
use Rattle.hp_tables.proofs.Still.{substitute_apply, substitute_name}

module _ (names : NameList) (made : IsMade names) (func : ℕ) (s : Signature) (known : slice_get names.signatures func ≡ Some s) (args_are : s.args ≡ Num ∷ []) (result_is : s.result ≡ Num) where
  abbrev scope : Scope
  scope = term_scope names

  profile_is : function_profile names s.name ≡ Some (profile_of s)
  profile_is =
      let at : position (bytes_eq s.name) (function_words names) ≡ Some func =
      position_of (function_words names) func s.name made.functions (get_map signature_name names.signatures func s known) in
      ap (λ (o : Option ℕ). option_map profile_of (option_and_then (λ k. slice_get names.signatures k) o)) at ∙ ap (λ o. option_map profile_of o) known

  -- ---- loads
  load_of : (y : Term-F Term) (t : Term) → roll-Term y ≡ t → load scope t ≡ load_step (places_of scope) (map-Term Term Load (load scope) y)
  load_of y t e = ap (load scope) (sym e) ∙ fold-roll-Term Load (load_step (places_of scope)) y

  arg_load : (x : Arg) → ArgFits (sorts names) Num x → (load scope (arg_term names x)).indexes ≡ 0
  arg_load (arg.Number q) h = ap (λ (l : Load). l.indexes) (load_of (Term-F.Number q) (Number q) (rolls-Number q))
  arg_load (arg.Named name) h = (let w = name_word names name in ap (λ (l : Load). l.indexes) (load_of (Term-F.Name w) (Name w) (rolls-Name w)))
  arg_load (arg.Index base offset) h = absurd h
  arg_load arg.Null h = absurd h

  value_load : (x : Arg) → ArgFits (sorts names) Num x → (load scope (Apply s.name (arg_term names x ∷ []))).indexes ≡ 0
  value_load x h =
      let t = arg_term names x in
      let places : places_of scope s.name ≡ Num ∷ [] = ap argument_sorts profile_is ∙ args_are in
      let none : arguments_load (Num ∷ []) (load scope t ∷ []) ≡ 0 = (let z = arg_load x h in omega (arith, z)) in
      ap (λ (l : Load). l.indexes) (load_of (Term-F.Apply s.name (t ∷ [])) (Apply s.name (t ∷ [])) (rolls-Apply s.name (t ∷ [])))
      ∙ ap (λ ss. arguments_load ss (load scope t ∷ [])) places ∙ none

  module _ (shape : Shape) (different : bytes_eq shape.first shape.second ≡ false) (x y : Arg) (p : ArgFits (sorts names) Num x) (q : ArgFits (sorts names) Num y) where
    abbrev clause : Universal
    clause = shape_clause s.name shape

    abbrev ρ : Word → Term
    ρ = replacement names clause.vars (x ∷ y ∷ [])

    first_is : ρ shape.first ≡ arg_term names x
    first_is = rw (same_bytes shape.first) refl

    second_is : ρ shape.second ≡ arg_term names y
    second_is = rw (different, same_bytes shape.second) refl

    abbrev IsLightTerm : Term → Type 0
    IsLightTerm t = (load scope (substitute ρ t)).indexes ≡ 0

    name_light : (word : Word) (z : Arg) → ArgFits (sorts names) Num z → ρ word ≡ arg_term names z → IsLightTerm (Name word)
    name_light word z h e = ap (λ t. (load scope t).indexes) (substitute_name ρ word ∙ e) ∙ arg_load z h

    apply_light : (word : Word) (z : Arg) → ArgFits (sorts names) Num z → ρ word ≡ arg_term names z → IsLightTerm (Apply s.name (Name word ∷ []))
    apply_light word z h e =
        ap (λ t. (load scope t).indexes) (substitute_apply ρ s.name (Name word ∷ []) ∙ ap (λ t. Apply s.name (t ∷ [])) (substitute_name ρ word ∙ e)) ∙ value_load z h

    chosen_light : (b : Bool) (t u : Term) → IsLightTerm t → IsLightTerm u → IsLightTerm (cond b t u)
    chosen_light true t u h k = h
    chosen_light false t u h k = k

    at_choice : (b : Bool) (v w : Word) → IsLightTerm (Apply s.name (Name v ∷ [])) → IsLightTerm (Apply s.name (Name w ∷ [])) → IsLightTerm (Apply s.name (cond b (Name v) (Name w) ∷ []))
    at_choice true v w h k = h
    at_choice false v w h k = k

    -- ---- sorts
    abbrev vars : List Var
    vars = clause.vars

    abbrev inner : Scope
    inner = clause_scope names vars

    first_of_name : (word : Word) → inner.name word ≡ Some Num → first_sort inner (Name word) ≡ Some Num
    first_of_name word e = ap (first_sort inner) (sym (rolls-Name word)) ∙ fold-roll-Term (Option Sort) (first_step inner) (Term-F.Name word) ∙ e

    first_of_value : (t : Term) → first_sort inner (Apply s.name (t ∷ [])) ≡ Some Num
    first_of_value t =
        ap (first_sort inner) (sym (rolls-Apply s.name (t ∷ []))) ∙ fold-roll-Term (Option Sort) (first_step inner) (Term-F.Apply s.name (t ∷ []))
        ∙ ap (λ (o : Option Profile). option_map (λ (f : Profile). f.result) o) profile_is ∙ ap (λ r. Some r) result_is

    first_sort_is : first_sort inner (Name shape.first) ≡ Some Num
    first_sort_is = first_of_name shape.first (rw (same_bytes shape.first) refl)

    second_sort_is : first_sort inner (Name shape.second) ≡ Some Num
    second_sort_is = first_of_name shape.second (rw (different, same_bytes shape.second) refl)

    chosen_sort : (b : Bool) (t u : Term) → first_sort inner t ≡ Some Num → first_sort inner u ≡ Some Num → first_sort inner (cond b t u) ≡ Some Num
    chosen_sort true t u h k = h
    chosen_sort false t u h k = k

    -- ---- atoms
    light_by : (atom : Atom) → IsLightTerm atom.left → IsLightTerm atom.right → first_sort inner atom.left ≡ Some Num
        → IsLightWithin scope (substitute_atom ρ atom) × (sort_of inner atom ≡ Idx → ⊥)
    light_by atom l r e = (
      record { left = omega (arith, l); right = omega (arith, r) },
      λ is. (let num : sort_of inner atom ≡ Num = ap (λ (o : Option Sort). unwrap_or (option_or o (first_sort inner atom.right)) Num) e in
          let both : Num ≡ Idx = sym num ∙ is in cc),
    )

    abbrev IsLightAtom : Atom → Type 0
    IsLightAtom atom = IsLightWithin scope (substitute_atom ρ atom) × (sort_of inner atom ≡ Idx → ⊥)

    at_most_light : (turned : Bool) (t u : Term) → IsLightTerm t → IsLightTerm u → first_sort inner t ≡ Some Num → first_sort inner u ≡ Some Num → IsLightAtom (at_most turned t u)
    at_most_light false t u h k a b = light_by (at_most false t u) h k a
    at_most_light true t u h k a b = light_by (at_most true t u) k h b

    lower_light : IsLightTerm (lower_term shape)
    lower_light = chosen_light shape.first_lower (Name shape.first) (Name shape.second) (name_light shape.first x p first_is) (name_light shape.second y q second_is)

    upper_light : IsLightTerm (upper_term shape)
    upper_light = chosen_light shape.first_lower (Name shape.second) (Name shape.first) (name_light shape.second y q second_is) (name_light shape.first x p first_is)

    lower_value : IsLightTerm (Apply s.name (lower_term shape ∷ []))
    lower_value = at_choice shape.first_lower shape.first shape.second (apply_light shape.first x p first_is) (apply_light shape.second y q second_is)

    upper_value : IsLightTerm (Apply s.name (upper_term shape ∷ []))
    upper_value = at_choice shape.first_lower shape.second shape.first (apply_light shape.second y q second_is) (apply_light shape.first x p first_is)

    guard_light : IsLightAtom (at_most shape.guard_turned (lower_term shape) (upper_term shape))
    guard_light =
        at_most_light shape.guard_turned (lower_term shape) (upper_term shape) lower_light upper_light
        (chosen_sort shape.first_lower (Name shape.first) (Name shape.second) first_sort_is second_sort_is)
        (chosen_sort shape.first_lower (Name shape.second) (Name shape.first) second_sort_is first_sort_is)

    head_light : IsLightAtom (shape_head s.name shape)
    head_light =
        let lower = Apply s.name (lower_term shape ∷ []) in
        let upper = Apply s.name (upper_term shape ∷ []) in
        at_most_light shape.head_turned (cond shape.rising lower upper) (cond shape.rising upper lower)
        (chosen_light shape.rising lower upper lower_value upper_value) (chosen_light shape.rising upper lower upper_value lower_value)
        (chosen_sort shape.rising lower upper (first_of_value (lower_term shape)) (first_of_value (upper_term shape)))
        (chosen_sort shape.rising upper lower (first_of_value (upper_term shape)) (first_of_value (lower_term shape)))

num_small : (ss : List Sort) (x : Arg) → ArgFits ss Num x → IsSmallArg x
num_small ss (arg.Number q) h = tt
num_small ss (arg.Named name) h = tt
num_small ss (arg.Index base offset) h = absurd h
num_small ss arg.Null h = absurd h

-- what a tuple asks of a clause, by the clause alone
abbrev IsLightThere : NameList → List Arg → Universal → Atom → Type 0
IsLightThere names args u atom = IsLightWithin (term_scope names) (substitute_atom (replacement names u.vars args) atom) × (sort_of (clause_scope names u.vars) atom ≡ Idx → ⊥)

light_at : (names : NameList) (c : FlatClause) (args : List Arg) (atom : Atom) → IsLightThere names args (universal_of c) atom → IsLightAt names c args atom
light_at names c args atom h = record { inner = h.0; sides = λ e. absurd (h.1 e) }

record Suits (names : NameList) (args : List Arg) (u : Universal) : Type 0 where
  pub sorted : AllZip (λ (v : Var) x. ArgFits (sorts names) v.sort x) u.vars args
  pub guard : All (IsLightThere names args u) u.guard
  pub head : All (IsLightThere names args u) u.head

module _ (names : NameList) (made : IsMade names) (fit : IsFitNames names) (func : ℕ) (s : Signature) (known : slice_get names.signatures func ≡ Some s) (args_are : s.args ≡ Num ∷ []) (result_is : s.result ≡ Num)
    (c : FlatClause) (shape : Shape) (different : bytes_eq shape.first shape.second ≡ false) (clause_is : universal_of c ≡ shape_clause s.name shape) where
  arguments_fit : (x y : Arg) → ArgFits (sorts names) Num x → ArgFits (sorts names) Num y → TupleFits names c (x ∷ y ∷ [])
  arguments_fit x y p q =
      let args = x ∷ y ∷ [] in
      let u = shape_clause s.name shape in
      let there : Suits names args u = record {
        sorted = (p, (q, tt));
        guard = All-cons (IsLightThere names args u) _ [] (guard_light names made func s known args_are result_is shape different x y p q) (All-nil (IsLightThere names args u));
        head = All-cons (IsLightThere names args u) _ [] (head_light names made func s known args_are result_is shape different x y p q) (All-nil (IsLightThere names args u));
      } in
      let here : Suits names args (universal_of c) = subst (Suits names args) (sym clause_is) there in
      record {
        sorted = here.sorted;
        small = All-cons IsSmallArg x (y ∷ []) (num_small (sorts names) x p) (All-cons IsSmallArg y [] (num_small (sorts names) y q) (All-nil IsSmallArg));
        guard = All-weaker (IsLightThere names args (universal_of c)) (IsLightAt names c args) (λ a h. light_at names c args a h) c.guard here.guard;
        head = All-weaker (IsLightThere names args (universal_of c)) (IsLightAt names c args) (λ a h. light_at names c args a h) c.head here.head;
      }

  point_fits : (p : Point) → Contains (points func names.definitions) p → ArgFits (sorts names) Num (first_arg p.args)
  point_fits p m =
      let is = are_points names made fit func s known p m in
      (one_argument (sorts names) p.args (subst (λ (ss : List Sort). AllZip (ArgFits (sorts names)) ss p.args) args_are is.args)).0

  pub pair_fits : (first_lower : Bool) (pair : Point × Point) → Contains (points func names.definitions) pair.0 → Contains (points func names.definitions) pair.1
      → TupleFits names c (pair_tuple first_lower pair).args
  pair_fits true pair m n = arguments_fit (first_arg pair.0.args) (first_arg pair.1.args) (point_fits pair.0 m) (point_fits pair.1 n)
  pair_fits false pair m n = arguments_fit (first_arg pair.1.args) (first_arg pair.0.args) (point_fits pair.1 n) (point_fits pair.0 m)

  pub pairs_fit : (first_lower : Bool) → All (λ (t : Tuple). TupleFits names c t.args) (map (pair_tuple first_lower) (ordered_pairs (points func names.definitions)))
  pairs_fit first_lower =
      let ps = points func names.definitions in
      All-by (λ (t : Tuple). TupleFits names c t.args) (map (pair_tuple first_lower) (ordered_pairs ps))
      (λ t k. (let w = map_contains (pair_tuple first_lower) (ordered_pairs ps) t k in
      let i = pairs_inside ps w.0 w.1 in
      subst (λ (z : Tuple). TupleFits names c z.args) w.2 (pair_fits first_lower w.0 i.0 i.1)))

-- ---- the plan of a monotone function
pub monotone_plan_fits : (names : NameList) (func : ℕ) (word : Word) (c : FlatClause) (form : Form) (funcs : List ℕ) → IsMonotone names func word c form funcs → IsMade names → IsFitNames names
    → PlanFits names (c ∷ []) (pairs_plan func form.first_lower c names)
monotone_plan_fits names func word c form funcs lent made fit =
    let w = written names func word c form funcs lent in
    let p : Planned = record { clause = c; tuples = map (pair_tuple form.first_lower) (ordered_pairs (points func names.definitions)) } in
    All-cons (PlannedFits names (c ∷ [])) p []
    (record {
      among = contains_first c [];
      flat = lent.flat;
      tuples = pairs_fit names made fit func lent.signature lent.known lent.arguments lent.result c w.shape w.different w.clause_is form.first_lower;
    })
    (All-nil (PlannedFits names (c ∷ [])))

-- arguments of each two of its applications fit its clause
pub monotone_pairs_fit : (names : NameList) (func : ℕ) (word : Word) (c : FlatClause) (form : Form) (funcs : List ℕ) → IsMonotone names func word c form funcs → IsMade names → IsFitNames names
    → PairsFit names c form.first_lower (points func names.definitions)
monotone_pairs_fit names func word c form funcs lent made fit p q m n =
    let w = written names func word c form funcs lent in
    pair_fits names made fit func lent.signature lent.known lent.arguments lent.result c w.shape w.different w.clause_is form.first_lower (p, q) m n
