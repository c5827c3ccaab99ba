-- Free and monotone functions complete what is true at their applications.
use Rattle.std.proofs.Common.{◌≡◌, ◌≤◌, ◌+◌, ◌||◌, ℕ, suc, List, [], ◌∷◌, ◌++◌, Bool, true, false, IsTrue, length, map, Option, Some, Ok, refl, sym, ap, subst, ◌∙◌, arith}
use Rattle.std.specs.Prelude.{slice_get}
use Rattle.std.specs.List.{All, AllZip, Contains, list_any}
use Rattle.std.specs.Str.{bytes_eq}
use Rattle.std.proofs.lemmas.Option.{same_Some}
use Rattle.std.proofs.lemmas.List.Elements.{All-contains, All-head}
use Rattle.hp_tree.specs.Limits.{most_arguments}
use Rattle.hp_tree.specs.declared.problem.Sort.{Sort}
use Rattle.hp_tree.specs.declared.problem.Sort.TheVariants.{Num}
use Rattle.hp_tree.specs.Universal.{Universal}
use Rattle.hp_tree.specs.Value.{Word}
use Rattle.hp_lit.specs.declared.literal.Name as literal
use Rattle.hp_lit.specs.declared.line.Arg.{Arg}
use Rattle.hp_lit.specs.declared.line.Body.{Body}
use Rattle.hp_lit.specs.declared.line.Def.{Def}
use Rattle.hp_lit.specs.Truth.{Values}
use Rattle.hp_defs.specs.declared.names.Ground.{Ground}
use Rattle.hp_defs.specs.declared.names.Signature.{Signature}
use Rattle.hp_defs.specs.Fit.{ArgFits, IsFitNames}
use Rattle.hp_defs.specs.Made.{IsMade}
use Rattle.hp_defs.specs.Names.{NameList, sorts}
use Rattle.hp_model.specs.declared.structure.Table.{Table}
use Rattle.hp_local.specs.Frame.{AreCongruent, Fact, Frame, IsTrueWithPoints}
use Rattle.hp_local.specs.Free.{free_table}
use Rattle.hp_local.specs.Law.{Completes}
use Rattle.hp_local.specs.Monotone.{PairsAreTrue, Shape, shape_clause}
use Rattle.hp_local.specs.Ordered.{fact_points, first_argument, in_order, step_table}
use Rattle.hp_local.specs.Rows.{HaveArguments, own_facts}
use Rattle.hp_local.proofs.Free.{free_completes}
use Rattle.hp_local.proofs.Lists.{contains_first, contains_map, map_contains}
use Rattle.hp_local.proofs.Monotone.{monotone_completes}
use Rattle.hp_base.specs.Congruence.{Point, body_args}
use Rattle.hp_base.specs.Values.{arg_value, arg_values}
use Rattle.hp_norm.specs.declared.flat.FlatClause.{FlatClause}
use Rattle.hp_instance.specs.declared.tuple.Tuple.{Tuple}
use Rattle.hp_norm.specs.Flat.{universal_of}
use Rattle.hp_instance.specs.Laws.{ArgumentsComeBack}
use Rattle.hp_class.specs.Frame.{fact_of, facts_of, frame_at, is_function, signature_word}
use Rattle.hp_class.specs.Group.{group_lines}
use Rattle.hp_class.specs.Law.{IsModelled, PlannedIsTrue, group_at}
use Rattle.hp_class.specs.Points.{points}
use Rattle.hp_class.proofs.Facts.{own_facts_are_points}
use Rattle.hp_class.proofs.Points.{applied, are_points}
use Rattle.hp_shapes.specs.declared.shape.Form.{Form}
use Rattle.hp_tables.specs.Classes.{IsFree, IsMonotone, free_tables, step_tables}
use Rattle.hp_tables.specs.Pairs.{first_arg, ordered_pairs, pair_tuple, pairs_plan}
use Rattle.hp_tables.proofs.Kept.{group_kept, plan_kept}
use Rattle.hp_tables.proofs.OrderedPairs.{pairs_all}
use Rattle.hp_tables.proofs.Written.{written}

-- ---- one function
alone : (b : Bool) → IsTrue (b || false) → IsTrue b
alone true h = h
alone false h = h

-- the function of a group of one
owned : (names : NameList) (func : ℕ) (s : Signature) → slice_get names.signatures func ≡ Some s → (word : Word) → IsTrue (is_function names (func ∷ []) word) → IsTrue (bytes_eq s.name word)
owned names func s known word h =
    alone (bytes_eq s.name word) (subst (λ (o : Option Signature). IsTrue (list_any (λ (f : Word). bytes_eq f word) (signature_word o ++ []))) known h)

completes_as : (frame : Frame) (clauses : List Universal) (tables : List Table) (applied own other : Word → Bool) → ((word : Word) → IsTrue (other word) → IsTrue (own word))
    → Completes frame applied (record { own = own; clauses = clauses; tables = tables }) → Completes frame applied (record { own = other; clauses = clauses; tables = tables })
completes_as frame clauses tables applied own other h c lower have = (let w = c lower have in (w.0, λ k m i o. w.1 k m i (h k.func o)))

map_length : {A B : Type 0} (f : A → B) (xs : List A) → length (map f xs) ≡ length xs
map_length f [] = refl
map_length f (x ∷ xs) = ap suc (map_length f xs)

zip_length : {A B : Type 0} (R : A → B → Type 0) (xs : List A) (ys : List B) → AllZip R xs ys → length ys ≡ length xs
zip_length R [] [] h = refl
zip_length R [] (y ∷ ys) h = absurd h
zip_length R (x ∷ xs) [] h = absurd h
zip_length R (x ∷ xs) (y ∷ ys) h = ap suc (zip_length R xs ys h.1)

module _ (names : NameList) (made : IsMade names) (fit : IsFitNames names) (func : ℕ) (s : Signature) (known : slice_get names.signatures func ≡ Some s) (size : ℕ) (v : Values) where
  own : own_facts s.name (frame_at size names v).facts ≡ facts_of func s.name names v
  own = own_facts_are_points names v func s made known

  -- the application of a point
  point_of_fact : (k : Fact) → Contains (own_facts s.name (frame_at size names v).facts) k → (p : Point) × Contains (points func names.definitions) p × (fact_of s.name v p ≡ k)
  point_of_fact k m = map_contains (fact_of s.name v) (points func names.definitions) k (subst (λ (ks : List Fact). Contains ks k) own m)

  arity : HaveArguments (length s.args) (own_facts s.name (frame_at size names v).facts)
  arity k m =
      let w = point_of_fact k m in
      let is = are_points names made fit func s known w.0 w.1 in
      ap (λ (z : Fact). length z.args) (sym w.2) ∙ map_length (arg_value v) w.0.args ∙ zip_length (ArgFits (sorts names)) s.args w.0.args is.args

  -- applications of one name have the same arguments
  one_name : (p q : Point) → Contains (points func names.definitions) p → Contains (points func names.definitions) q → p.name.0 ≡ q.name.0 → p.args ≡ q.args
  one_name p q m n e =
      let a = applied func names.definitions p m in
      let b = applied func names.definitions q n in
      let i : p.name.0 ≡ length names.constants + a.place = ap (λ (x : literal.Name). x.0) (sym a.name ∙ made.named a.place a.definition a.there) in
      let j : q.name.0 ≡ length names.constants + b.place = ap (λ (x : literal.Name). x.0) (sym b.name ∙ made.named b.place b.definition b.there) in
      let same : b.place ≡ a.place = omega (arith, i, j, e) in
      let there : a.definition ≡ b.definition = same_Some a.definition b.definition (sym a.there ∙ ap (λ k. slice_get names.definitions k) (sym same) ∙ b.there) in
      ap (λ (x : Body). body_args x) (sym a.body ∙ ap (λ (d : Def). d.body) there ∙ b.body)

-- ---- free functions
pub free_completes_at : (names : NameList) (func : ℕ) (word : Word) (count : ℕ) (funcs : List ℕ) → IsFree names func word count funcs → IsMade names → IsFitNames names
    → (size : ℕ) (v : Values) → AreCongruent (frame_at size names v).facts → Completes (frame_at size names v) (is_function names []) (group_at names funcs [] (free_tables func word count names v))
free_completes_at names func word count funcs free made fit size v congruent =
    let s = free.signature in
    let frame = frame_at size names v in
    let few : length s.args ≤ most_arguments = subst (λ n. n ≤ most_arguments) (sym free.arguments) free.few in
    let law = free_completes frame s.name (length s.args) few (arity names made fit func s free.known size v) congruent in
    let owns = completes_as frame [] (free_table s.name (length s.args) (own_facts s.name frame.facts) ∷ []) (λ w. false) (bytes_eq s.name) (λ w. is_function names (func ∷ []) w)
    (owned names func s free.known) law in
    let facts = own names made fit func s free.known size v in
    let here = subst (λ (ks : List Fact). Completes frame (λ w. false) (record { own = λ w. is_function names (func ∷ []) w; clauses = []; tables = free_table s.name (length s.args) ks ∷ [] })) facts owns in
    let named = subst (λ (w : Word). Completes frame (λ u. false) (record { own = λ u. is_function names (func ∷ []) u; clauses = []; tables = free_table w (length s.args) (facts_of func w names v) ∷ [] }))
    free.name here in
    let counted = subst (λ n. Completes frame (λ u. false) (record { own = λ u. is_function names (func ∷ []) u; clauses = []; tables = free_table word n (facts_of func word names v) ∷ [] })) free.arguments named in
    subst (λ (fs : List ℕ). Completes frame (λ u. false) (record { own = λ u. is_function names fs u; clauses = []; tables = free_table word count (facts_of func word names v) ∷ [] })) (sym free.own) counted

-- ---- monotone functions
first_value : (v : Values) (args : List Arg) → first_argument (arg_values v args) ≡ arg_value v (first_arg args)
first_value v [] = refl
first_value v (x ∷ args) = refl

module _ (names early : NameList) (made : IsMade names) (fit : IsFitNames names) (func : ℕ) (s : Signature) (known : slice_get names.signatures func ≡ Some s) (size : ℕ) (v : Values)
    (c : FlatClause) (shape : Shape) (first_lower : Bool) (clause_is : universal_of c ≡ shape_clause s.name shape)
    (points_are : points func names.definitions ≡ points func early.definitions)
    (instances : All (PlannedIsTrue (func ∷ []) size names v) (pairs_plan func first_lower c early)) where
  abbrev frame : Frame
  frame = frame_at size names v

  abbrev ps : List Point
  ps = points func early.definitions

  abbrev Holds : Tuple → Type 0
  Holds t = IsTrueWithPoints frame (is_function names (func ∷ [])) (universal_of c) (arg_values v t.args)

  at_pair : (p q : Point) → Contains (ordered_pairs ps) (p, q) → Holds (pair_tuple first_lower (p, q))
  at_pair p q m =
      All-contains Holds (map (pair_tuple first_lower) (ordered_pairs ps)) (pair_tuple first_lower (p, q))
      (All-head (PlannedIsTrue (func ∷ []) size names v) (record { clause = c; tuples = map (pair_tuple first_lower) (ordered_pairs ps) }) [] instances)
      (contains_map (pair_tuple first_lower) (ordered_pairs ps) (p, q) m)

  -- with the arguments in the order of the variables
  in_their_order : (b : Bool) → first_lower ≡ b → (p q : Point) → (p.name.0 ≡ q.name.0 → ⊥) → Contains ps p → Contains ps q
      → IsTrueWithPoints frame (is_function names (func ∷ [])) (universal_of c) (arg_value v (first_arg p.args) ∷ arg_value v (first_arg q.args) ∷ [])
  in_their_order true e p q apart m n = subst (λ b. IsTrueWithPoints frame (is_function names (func ∷ [])) (universal_of c) (arg_values v (pair_tuple b (p, q)).args)) e (at_pair p q (pairs_all p q ps apart m n))
  in_their_order false e p q apart m n =
      subst (λ b. IsTrueWithPoints frame (is_function names (func ∷ [])) (universal_of c) (arg_values v (pair_tuple b (q, p)).args)) e (at_pair q p (pairs_all q p ps (λ h. apart (sym h)) n m))

  pairs_are_true : PairsAreTrue frame s.name (shape_clause s.name shape)
  pairs_are_true k l m n apart functions have =
      let a = point_of_fact names made fit func s known size v k m in
      let b = point_of_fact names made fit func s known size v l n in
      let p = a.0 in
      let q = b.0 in
      let differ = λ (e : p.name.0 ≡ q.name.0). apart (
      let same = one_name names made fit func s known size v p q a.1 b.1 e in
      ap (λ (z : Fact). z.args) (sym a.2) ∙ ap (λ xs. arg_values v xs) same ∙ ap (λ (z : Fact). z.args) b.2) in
      let here = in_their_order first_lower refl p q differ (subst (λ (xs : List Point). Contains xs p) points_are a.1) (subst (λ (xs : List Point). Contains xs q) points_are b.1) in
      let x : arg_value v (first_arg p.args) ≡ first_argument k.args = sym (first_value v p.args) ∙ ap (λ (z : Fact). first_argument z.args) a.2 in
      let y : arg_value v (first_arg q.args) ≡ first_argument l.args = sym (first_value v q.args) ∙ ap (λ (z : Fact). first_argument z.args) b.2 in
      let values = subst (λ z. IsTrueWithPoints frame (is_function names (func ∷ [])) (universal_of c) (z ∷ first_argument l.args ∷ [])) x
      (subst (λ z. IsTrueWithPoints frame (is_function names (func ∷ [])) (universal_of c) (arg_value v (first_arg p.args) ∷ z ∷ [])) y here) in
      let said = subst (λ (u : Universal). IsTrueWithPoints frame (is_function names (func ∷ [])) u (first_argument k.args ∷ first_argument l.args ∷ [])) clause_is values in
      said functions (λ j i o. have j i (owned names func s known j.func o))

  monotone_at : bytes_eq shape.first shape.second ≡ false → s.args ≡ Num ∷ [] → AreCongruent frame.facts
      → Completes frame (is_function names []) (group_at names (func ∷ []) (c ∷ []) (step_tables func s.name names v))
  monotone_at different args_are congruent =
      let one = subst (λ (ss : List Sort). HaveArguments (length ss) (own_facts s.name frame.facts)) args_are (arity names made fit func s known size v) in
      let law = monotone_completes frame s.name shape different one congruent pairs_are_true in
      let owns = completes_as frame (shape_clause s.name shape ∷ []) (step_table s.name (in_order (fact_points (own_facts s.name frame.facts))) ∷ []) (λ w. false) (bytes_eq s.name)
      (λ w. is_function names (func ∷ []) w) (owned names func s known) law in
      let here = subst (λ (ks : List Fact). Completes frame (λ w. false) (record { own = λ w. is_function names (func ∷ []) w; clauses = shape_clause s.name shape ∷ []; tables = step_table s.name (in_order (fact_points ks)) ∷ [] }))
      (own names made fit func s known size v) owns in
      subst (λ (u : Universal). Completes frame (λ w. false) (record { own = λ w. is_function names (func ∷ []) w; clauses = u ∷ []; tables = step_tables func s.name names v })) (sym clause_is) here

pub monotone_completes_at : (back : ArgumentsComeBack) (start next : Ground) (names : NameList) (func : ℕ) (word : Word) (c : FlatClause) (form : Form) (funcs : List ℕ) (size : ℕ) (v : Values) (done : Unit {0})
    → IsMonotone start.names func word c form funcs → group_lines funcs (pairs_plan func form.first_lower c) start ≡ Ok (done, next)
    → IsModelled funcs [] (pairs_plan func form.first_lower c start.names) size start next names v
    → Completes (frame_at size names v) (is_function names []) (group_at names funcs (c ∷ []) (step_tables func word names v))
monotone_completes_at back start next names func word c form funcs size v done lent e m =
    let s = lent.signature in
    let w = written start.names func word c form funcs lent in
    let shape = w.shape in
    let different = w.different in
    let clause_is = w.clause_is in
    let kept : next.names ≡ start.names = group_kept funcs (pairs_plan func form.first_lower c) done start next m.sound
    (λ d mid f. plan_kept back start.names m.sound.made m.sound.names func s lent.known lent.arguments c shape different clause_is form.first_lower d start mid refl f) e in
    let known : slice_get names.signatures func ≡ Some s =
    ap (λ (ss : List Signature). slice_get ss func) (m.begins.signatures ∙ ap (λ (n : NameList). n.signatures) kept) ∙ lent.known in
    let among : Contains funcs func = subst (λ (fs : List ℕ). Contains fs func) (sym lent.own) (contains_first func []) in
    let points_are = m.complete func among ∙ ap (λ (n : NameList). points func n.definitions) kept in
    let instances = subst (λ (fs : List ℕ). All (PlannedIsTrue (fs ++ []) size names v) (pairs_plan func form.first_lower c start.names)) lent.own m.instances in
    let law = monotone_at names start.names m.made m.fit func s known size v c shape form.first_lower clause_is points_are instances different lent.arguments m.congruent in
    subst (λ (fs : List ℕ). Completes (frame_at size names v) (is_function names []) (group_at names fs (c ∷ []) (step_tables func word names v))) (sym lent.own)
    (subst (λ (w : Word). Completes (frame_at size names v) (is_function names []) (group_at names (func ∷ []) (c ∷ []) (step_tables func w names v))) lent.name law)
