-- Computations that make definitions by applications of functions that pass a test alone.
use Rattle.std.proofs.Common.{◌≡◌, ◌≤◌, ◌⊎◌, ◌++◌, ℕ, zero, suc, List, [], ◌∷◌, length, Bool, true, false, Option, Some, None, Result, Ok, Err, slice_get, refl, sym, ap, subst, ◌∙◌, arith, inl, inr}
use Rattle.std.specs.Prelude.{nat_lt, if◌then◌else◌}
use Rattle.std.proofs.lemmas.Option.{slice_get_within}
use Rattle.hp_tree.specs.Limits.{most_lines, most_names}
use Rattle.hp_tree.specs.declared.limit.Limit.{Limit as Which}
use Rattle.hp_tree.specs.declared.problem.Sort.{Sort}
use Rattle.hp_tree.specs.declared.problem.Sort.TheVariants.{Num, Idx, Ptr}
use Rattle.hp_tree.specs.declared.term.Term.{Term}
use Rattle.hp_lit.specs.declared.literal.Name.{Name}
use Rattle.hp_lit.specs.declared.line.Arg.{Arg}
use Rattle.hp_lit.specs.declared.line.Body.{Body}
use Rattle.hp_lit.specs.declared.line.Body.TheVariants.{Apply, Sum}
use Rattle.hp_lit.specs.declared.line.Def.{Def}
use Rattle.hp_lit.specs.declared.line.Lin.{Lin}
use Rattle.hp_lit.specs.declared.line.LinPart.{LinPart}
use Rattle.hp_lit.specs.declared.line.Line.{Line}
use Rattle.hp_lit.specs.declared.refusal.Refusal.TheVariants.{Wide, Memory}
use Rattle.hp_linear.specs.Steps.{Refusable}
use Rattle.hp_linear.specs.Lins.{lin_of}
use Rattle.hp_defs.specs.declared.names.Ground.{Ground}
use Rattle.hp_defs.specs.Names.{NameList, count, next, with_definition, words}
use Rattle.hp_defs.specs.Same.{place}
use Rattle.hp_defs.proofs.Growing.{begins_get}
use Rattle.hp_defs.proofs.Lists.{pushed}
use Rattle.hp_base.specs.Making.{Begins, Maker, ◌then◌, computed, each, in_turn, keep}
use Rattle.hp_base.specs.Lines.{add_line, with_line}
use Rattle.hp_base.specs.Defining.{add_sum_line, definition_of, found_or_made, found_or_made_sum, made, made_sum, sum_literals, sum_of}
use Rattle.hp_base.specs.Arguments.{argument_of, is_alone, lin_argument, named_sum, parts_argument}
use Rattle.hp_base.proofs.Making.{begins_definition, begins_line, begins_names, begins_same, begins_trans}
use Rattle.hp_base.proofs.Growing.{came}
use Rattle.hp_norm.specs.Sound.{MakesOnly}

-- there is one, or a list is too short
is_there : {X : Type 0} (xs : List X) (k : ℕ) → ((x : X) × (slice_get xs k ≡ Some x)) ⊎ (length xs ≤ k)
is_there [] k = inr (omega arith)
is_there (x ∷ xs) zero = inl (x, refl)
is_there (x ∷ xs) (suc k) = elim (is_there xs k) [ inl h ↦ inl h | inr h ↦ inr (omega (arith, h)) ]

module _ (test : ℕ → Bool) where
  -- it grew, and each new definition by an application applies a function that passes the test
  pub record GrowsOnly (old new : Ground) : Type 0 where
    pub begins : Begins old new
    pub only : MakesOnly test old.names new.names

  abbrev pub Only : {A : Type 0} → Maker A → Type 0
  Only {A} m = (old new : Ground) (x : A) → m old ≡ Ok (x, new) → GrowsOnly old new

  none_new : (names : NameList) → MakesOnly test names names
  none_new names k d func args late e is = absurd (let h = slice_get_within names.definitions k d e in omega (arith, late, h))

  pub only_same : (g : Ground) → GrowsOnly g g
  only_same g = record { begins = begins_same g; only = none_new g.names }

  pub only_through : (old mid new : Ground) → GrowsOnly old mid → GrowsOnly mid new → GrowsOnly old new
  only_through old mid new p q = record { begins = begins_trans old mid new p.begins q.begins; only = by }
    where
      by : MakesOnly test old.names new.names
      by k d func args late e is = elim (is_there mid.names.definitions k) [
        | inl h ↦
            let front = (begins_names mid new q.begins).definitions in
            let same : h.0 ≡ d = (let both = sym (begins_get mid.names.definitions new.names.definitions k h.0 front h.1) ∙ e in cc) in
            p.only k h.0 func args late h.1 (ap (λ (x : Def). x.body) same ∙ is)
        | inr far ↦ q.only k d func args far e is
      ]

  -- ---- steps
  pub then_only : {A B : Type 0} (m : Maker A) (f : A → Maker B) → Only m → ((x : A) → Only (f x)) → Only (λ g. m g then f)
  then_only m f p q old new y e =
      let c = came (m old) f y new e in
      only_through old c.mid new (p old c.mid c.value c.first) (q c.value c.mid new y c.rest)

  pub value_only : {A : Type 0} (x : A) → Only (λ g. Ok (x, g))
  value_only {A} x old new y e = subst (GrowsOnly old) (ap (λ (o : Result (A × Ground) Which). elim o [ Ok z ↦ z.1 | Err l ↦ old ]) e) (only_same old)

  pub stopped_only : {A : Type 0} (l : Which) → Only {A = A} (λ g. Err l)
  stopped_only l old new y e = absurd (cc)

  pub computed_only : {A : Type 0} (item : ℕ) (r : Refusable A) → Only (computed item r)
  computed_only item (Ok x) = value_only x
  computed_only item (Err Wide) = stopped_only _
  computed_only item (Err Memory) = stopped_only _

  pub each_only : {N A : Type 0} (f : N → Maker A) (ns : List N) → ((n : N) → Only (f n)) → Only (each f ns)
  each_only f [] p = value_only []
  each_only f (n ∷ ns) p =
      then_only (f n) (λ x. λ mid. each f ns mid then λ xs. λ end. Ok (x ∷ xs, end)) (p n) (λ x. then_only (each f ns) (λ xs. λ end. Ok (x ∷ xs, end)) (each_only f ns p) (λ xs. value_only (x ∷ xs)))

  pub in_turn_only : {N : Type 0} (f : N → Maker (Unit {0})) (ns : List N) → ((n : N) → Only (f n)) → Only (in_turn f ns)
  in_turn_only f [] p = value_only tt
  in_turn_only f (n ∷ ns) p = then_only (f n) (λ done. in_turn f ns) (p n) (λ done. in_turn_only f ns p)

  -- ---- lines and definitions
  limited : {A : Type 0} (b : Bool) (x : A) (next old new : Ground) (l : Which) (y : A)
      → GrowsOnly old next → if◌then◌else◌ {A = Result (A × Ground) Which} b (Ok (x, next)) (Err l) ≡ Ok (y, new) → GrowsOnly old new
  limited {A} true x next old new l y b e = subst (GrowsOnly old) (ap (λ (o : Result (A × Ground) Which). elim o [ Ok z ↦ z.1 | Err l ↦ old ]) e) b
  limited false x next old new l y b e = absurd (cc)

  pub line_only : (line : Line) → Only (add_line line)
  line_only line old new y e =
      limited (nat_lt (length old.lines) most_lines) tt (with_line old line) old new _ y
      (record { begins = begins_line old line (old.lines ++ line ∷ []) refl; only = none_new old.names }) e

  -- a body that is no application, or one of a function that passes the test
  abbrev pub Passes : Body → Type 0
  Passes body = (func : ℕ) (args : List Arg) → body ≡ Apply func args → test func ≡ true

  one_new : (old : Ground) (body : Body) → Passes body → MakesOnly test old.names (with_definition old.names body)
  one_new old body passes k d func args late e is =
      let own : Def = record { name = next old.names; body = body } in
      elim (pushed old.names.definitions own k d e) [
        | inl h ↦ absurd (let within = slice_get_within old.names.definitions k d h in omega (arith, late, within))
        | inr h ↦ passes func args (sym (ap (λ (x : Def). x.body) h.1) ∙ is)
      ]

  pub made_only : (body : Body) → Passes body → Only (made body)
  made_only body passes old new y e =
      limited (nat_lt (count old.names) most_names) (next old.names) (record { names = with_definition old.names body; lines = old.lines }) old new _ y
      (record { begins = begins_definition old (with_definition old.names body) body refl; only = one_new old body passes }) e

  found_only : (body : Body) (found : Option ℕ) → Passes body → Only (found_or_made body found)
  found_only body None passes old new y e = made_only body passes old new y e
  found_only body (Some k) passes old new y e = value_only _ old new y e

  own_function : (own func : ℕ) (xs args : List Arg) → ◌≡◌ {A = Body} (Apply own xs) (Apply func args) → own ≡ func
  own_function own func xs args e = cc

  pub definition_only : (func : ℕ) (args : List Arg) → test func ≡ true → Only (definition_of func args)
  definition_only func args passes old new y e =
      found_only (Apply func args) (place (Apply func args) old.names.definitions)
      (λ other xs same. ap test (sym (own_function func other args xs same)) ∙ passes) old new y e

  -- ---- sums
  no_application : (lin : Lin) → Passes (Sum lin)
  no_application lin func args e = absurd (cc)

  sum_line_only : (item : ℕ) (lin : Lin) (name : Name) → Only (add_sum_line item lin name)
  sum_line_only item lin name = then_only (computed item (sum_literals name lin)) _ (computed_only item (sum_literals name lin)) (λ lits. line_only _)

  made_sum_only : (item : ℕ) (lin : Lin) → Only (made_sum item lin)
  made_sum_only item lin =
      then_only (made (Sum lin)) (λ name. λ mid. add_sum_line item lin name mid then λ done. keep name) (made_only (Sum lin) (no_application lin))
      (λ name. then_only (add_sum_line item lin name) (λ done. keep name) (sum_line_only item lin name) (λ done. value_only name))

  found_sum_only : (item : ℕ) (lin : Lin) (found : Option ℕ) → Only (found_or_made_sum item lin found)
  found_sum_only item lin None old new y e = made_sum_only item lin old new y e
  found_sum_only item lin (Some k) old new y e = value_only _ old new y e

  pub sum_only : (item : ℕ) (lin : Lin) → Only (sum_of item lin)
  sum_only item lin old new y e = found_sum_only item lin (place (Sum lin) old.names.definitions) old new y e

  -- ---- arguments
  named_sum_only : (item : ℕ) (lin : Lin) → Only (named_sum item lin)
  named_sum_only item lin = then_only (sum_of item lin) _ (sum_only item lin) (λ name. value_only _)

  alone_only : (b : Bool) (item : ℕ) (lin : Lin) (arg : Arg) → Only (if b then keep arg else named_sum item lin)
  alone_only true item lin arg = value_only arg
  alone_only false item lin arg = named_sum_only item lin

  parts_only : (item : ℕ) (lin : Lin) (parts : List LinPart) → Only (parts_argument item lin parts)
  parts_only item lin [] = value_only _
  parts_only item lin (part ∷ []) = alone_only (is_alone part lin.rest) item lin _
  parts_only item lin (part ∷ more ∷ parts) = named_sum_only item lin

  -- an argument makes sums alone
  pub argument_only : (item : ℕ) (sort : Sort) (term : Term) → Only (argument_of item sort term)
  argument_only item Num term old new y e =
      then_only (computed item (lin_of (words old.names) term)) (lin_argument item) (computed_only item (lin_of (words old.names) term)) (λ lin. parts_only item lin lin.parts) old new y e
  argument_only item Idx term old new y e = value_only _ old new y e
  argument_only item Ptr term old new y e = value_only _ old new y e
