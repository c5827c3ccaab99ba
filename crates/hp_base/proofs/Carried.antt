-- What each line and each definition that is added keeps, whole computations keep.
use Rattle.std.proofs.Common.{◌≡◌, ℕ, List, [], ◌∷◌, Bool, true, false, Option, Some, None, Result, Ok, Err, refl, ap, subst}
use Rattle.std.specs.Prelude.{nat_lt, length, slice_get, if◌then◌else◌}
use Rattle.hp_tree.specs.declared.limit.Limit.{Limit as Which}
use Rattle.hp_tree.specs.declared.problem.Sort.{Sort}
use Rattle.hp_tree.specs.declared.problem.Sort.TheVariants.{Num, Idx, Ptr}
use Rattle.hp_tree.specs.declared.term.Term.{Term}
use Rattle.hp_lit.specs.declared.literal.Name.{Name}
use Rattle.hp_lit.specs.declared.line.Arg.{Arg}
use Rattle.hp_lit.specs.declared.line.Body.{Body}
use Rattle.hp_lit.specs.declared.line.Body.TheVariants.{Apply, Sum}
use Rattle.hp_lit.specs.declared.line.Def.{Def}
use Rattle.hp_lit.specs.declared.line.Lin.{Lin}
use Rattle.hp_lit.specs.declared.line.LinPart.{LinPart}
use Rattle.hp_lit.specs.declared.line.Line.{Line}
use Rattle.hp_lit.specs.declared.refusal.Refusal.TheVariants.{Wide, Memory}
use Rattle.hp_tree.specs.Limits.{most_lines, most_names}
use Rattle.hp_linear.specs.Steps.{Refusable}
use Rattle.hp_linear.specs.Lins.{lin_of}
use Rattle.hp_defs.specs.declared.names.Ground.{Ground}
use Rattle.hp_defs.specs.declared.names.Signature.{Signature}
use Rattle.hp_defs.specs.Names.{count, next, with_definition, words}
use Rattle.hp_defs.specs.Same.{place}
use Rattle.hp_base.specs.Making.{Maker, ◌then◌, computed, each, in_turn, keep}
use Rattle.hp_base.specs.Lines.{add_line, with_line}
use Rattle.hp_base.specs.Defining.{add_sum_line, definition_of, found_or_made, found_or_made_sum, made, made_sum, sum_literals, sum_of}
use Rattle.hp_base.specs.Arguments.{argument_of, lin_argument, is_alone, named_sum, parts_argument}
use Rattle.hp_base.specs.Congruence.{Point, congruence_at, congruence_between, congruence_literals, congruence_of, point_of}

-- ---- steps
-- what the first step gave, and the rest from there
pub record Came {A B : Type 0} (r : Result (A × Ground) Which) (f : A → Maker B) (y : B) (new : Ground) : Type 0 where
  pub value : A
  pub mid : Ground
  pub first : r ≡ Ok (value, mid)
  pub rest : f value mid ≡ Ok (y, new)

pub came : {A B : Type 0} (r : Result (A × Ground) Which) (f : A → Maker B) (y : B) (new : Ground) → (r then f) ≡ Ok (y, new) → Came r f y new
came (Ok x) f y new e = record { value = x.0; mid = x.1; first = refl; rest = e }
came (Err l) f y new e = absurd (cc)

-- so it is of a ground set and itself, of steps one after the other, and of each line and definition for which there is room
pub record Carries (R : Ground → Ground → Type 0) : Type 0 where
  pub same : (g : Ground) → R g g
  pub through : (a b c : Ground) → R a b → R b c → R a c
  pub line : (line : Line) (g : Ground) → nat_lt (length g.lines) most_lines ≡ true → R g (with_line g line)
  pub definition : (body : Body) (g : Ground) → R g (record { names = with_definition g.names body; lines = g.lines })

-- so it is of the ground sets before and after the computation
abbrev pub Carried : (Ground → Ground → Type 0) → {A : Type 0} → Maker A → Type 0
Carried R {A} m = (old new : Ground) (x : A) → m old ≡ Ok (x, new) → R old new

module _ (R : Ground → Ground → Type 0) (c : Carries R) where
  pub then_carried : {A B : Type 0} (m : Maker A) (f : A → Maker B) → Carried R m → ((x : A) → Carried R (f x)) → Carried R (λ g. m g then f)
  then_carried m f p q old new y e =
      let s = came (m old) f y new e in
      c.through old s.mid new (p old s.mid s.value s.first) (q s.value s.mid new y s.rest)

  pub value_carried : {A : Type 0} (x : A) → Carried R (λ g. Ok (x, g))
  value_carried {A} x old new y e = subst (R old) (ap (λ (o : Result (A × Ground) Which). elim o [ Ok z ↦ z.1 | Err l ↦ old ]) e) (c.same old)

  stopped_carried : {A : Type 0} (l : Which) → Carried R {A = A} (λ g. Err l)
  stopped_carried l old new y e = absurd (cc)

  pub computed_carried : {A : Type 0} (item : ℕ) (r : Refusable A) → Carried R (computed item r)
  computed_carried item (Ok x) = value_carried x
  computed_carried item (Err Wide) = stopped_carried _
  computed_carried item (Err Memory) = stopped_carried _

  -- ---- lists
  pub each_carried : {N A : Type 0} (f : N → Maker A) (ns : List N) → ((n : N) → Carried R (f n)) → Carried R (each f ns)
  each_carried f [] p = value_carried []
  each_carried f (n ∷ ns) p =
      then_carried (f n) (λ x. λ mid. each f ns mid then λ xs. λ end. Ok (x ∷ xs, end)) (p n)
      (λ x. then_carried (each f ns) (λ xs. λ end. Ok (x ∷ xs, end)) (each_carried f ns p) (λ xs. value_carried (x ∷ xs)))

  pub in_turn_carried : {N : Type 0} (f : N → Maker (Unit {0})) (ns : List N) → ((n : N) → Carried R (f n)) → Carried R (in_turn f ns)
  in_turn_carried f [] p = value_carried tt
  in_turn_carried f (n ∷ ns) p = then_carried (f n) (λ done. in_turn f ns) (p n) (λ done. in_turn_carried f ns p)

  -- ---- lines and definitions
  limited : {A : Type 0} (b : Bool) (x : A) (next old new : Ground) (l : Which) (y : A)
      → (b ≡ true → R old next) → if◌then◌else◌ {A = Result (A × Ground) Which} b (Ok (x, next)) (Err l) ≡ Ok (y, new) → R old new
  limited {A} true x next old new l y h e = subst (R old) (ap (λ (o : Result (A × Ground) Which). elim o [ Ok z ↦ z.1 | Err l ↦ old ]) e) (h refl)
  limited false x next old new l y h e = absurd (cc)

  pub line_carried : (line : Line) → Carried R (add_line line)
  line_carried line old new y e = limited (nat_lt (length old.lines) most_lines) tt (with_line old line) old new _ y (c.line line old) e

  made_carried : (body : Body) → Carried R (made body)
  made_carried body old new y e =
      limited (nat_lt (count old.names) most_names) (next old.names) (record { names = with_definition old.names body; lines = old.lines }) old new _ y (λ room. c.definition body old) e

  found_carried : (body : Body) (found : Option ℕ) → Carried R (found_or_made body found)
  found_carried body None old new y e = made_carried body old new y e
  found_carried body (Some k) old new y e = value_carried _ old new y e

  pub definition_carried : (func : ℕ) (args : List Arg) → Carried R (definition_of func args)
  definition_carried func args old new y e = found_carried (Apply func args) (place (Apply func args) old.names.definitions) old new y e

  sum_line_carried : (item : ℕ) (lin : Lin) (name : Name) → Carried R (add_sum_line item lin name)
  sum_line_carried item lin name = then_carried (computed item (sum_literals name lin)) _ (computed_carried item (sum_literals name lin)) (λ lits. line_carried _)

  made_sum_carried : (item : ℕ) (lin : Lin) → Carried R (made_sum item lin)
  made_sum_carried item lin =
      then_carried (made (Sum lin)) (λ name. λ mid. add_sum_line item lin name mid then λ done. keep name) (made_carried (Sum lin))
      (λ name. then_carried (add_sum_line item lin name) (λ done. keep name) (sum_line_carried item lin name) (λ done. value_carried name))

  found_sum_carried : (item : ℕ) (lin : Lin) (found : Option ℕ) → Carried R (found_or_made_sum item lin found)
  found_sum_carried item lin None old new y e = made_sum_carried item lin old new y e
  found_sum_carried item lin (Some k) old new y e = value_carried _ old new y e

  pub sum_carried : (item : ℕ) (lin : Lin) → Carried R (sum_of item lin)
  sum_carried item lin old new y e = found_sum_carried item lin (place (Sum lin) old.names.definitions) old new y e

  -- ---- arguments
  named_sum_carried : (item : ℕ) (lin : Lin) → Carried R (named_sum item lin)
  named_sum_carried item lin = then_carried (sum_of item lin) _ (sum_carried item lin) (λ name. value_carried _)

  alone_carried : (b : Bool) (item : ℕ) (lin : Lin) (arg : Arg) → Carried R (if b then keep arg else named_sum item lin)
  alone_carried true item lin arg = value_carried arg
  alone_carried false item lin arg = named_sum_carried item lin

  parts_carried : (item : ℕ) (lin : Lin) (parts : List LinPart) → Carried R (parts_argument item lin parts)
  parts_carried item lin [] = value_carried _
  parts_carried item lin (part ∷ []) = alone_carried (is_alone part lin.rest) item lin _
  parts_carried item lin (part ∷ more ∷ parts) = named_sum_carried item lin

  pub argument_carried : (item : ℕ) (sort : Sort) (term : Term) → Carried R (argument_of item sort term)
  argument_carried item Num term old new y e =
      then_carried (computed item (lin_of (words old.names) term)) (lin_argument item) (computed_carried item (lin_of (words old.names) term)) (λ lin. parts_carried item lin lin.parts) old new y e
  argument_carried item Idx term old new y e = value_carried _ old new y e
  argument_carried item Ptr term old new y e = value_carried _ old new y e

  -- ---- congruence
  pub congruence_carried : (signature : Signature) (p q : Point) → Carried R (congruence_of signature p q)
  congruence_carried signature p q = then_carried (computed signature.item (congruence_literals signature p q)) _ (computed_carried signature.item (congruence_literals signature p q)) (λ lits. line_carried _)

  between_carried : (signature : Option Signature) (left right : Option Def) → Carried R (congruence_between signature left right)
  between_carried None left right = value_carried tt
  between_carried (Some signature) None right = value_carried tt
  between_carried (Some signature) (Some left) None = value_carried tt
  between_carried (Some signature) (Some left) (Some right) = congruence_carried signature (point_of left) (point_of right)

  pub congruence_at_carried : (func left right : ℕ) → Carried R (congruence_at func left right)
  congruence_at_carried func left right old new y e =
      between_carried (slice_get old.names.signatures func) (slice_get old.names.definitions left) (slice_get old.names.definitions right) old new y e
