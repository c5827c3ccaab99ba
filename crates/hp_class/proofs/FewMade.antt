-- A line is added only where there may be one more: what has few lines has few lines after each step.
use Rattle.std.proofs.Common.{◌≡◌, ◌≤◌, ℕ, suc, List, [], ◌∷◌, ◌++◌, Bool, true, false, Option, Some, None, Result, Ok, Err, refl, sym, ap, subst, arith}
use Rattle.std.specs.Prelude.{nat_lt, length, if◌then◌else◌}
use Rattle.hp_tree.specs.declared.limit.Limit.{Limit as Which}
use Rattle.hp_tree.specs.declared.problem.Sort.{Sort}
use Rattle.hp_tree.specs.declared.problem.Sort.TheVariants.{Num, Idx, Ptr}
use Rattle.hp_tree.specs.declared.term.Term.{Term}
use Rattle.hp_lit.specs.declared.literal.Name.{Name}
use Rattle.hp_lit.specs.declared.line.Arg.{Arg}
use Rattle.hp_lit.specs.declared.line.Body.{Body}
use Rattle.hp_lit.specs.declared.line.Body.TheVariants.{Apply, Sum}
use Rattle.hp_lit.specs.declared.line.Lin.{Lin}
use Rattle.hp_lit.specs.declared.line.LinPart.{LinPart}
use Rattle.hp_lit.specs.declared.line.Line.{Line}
use Rattle.hp_lit.specs.declared.refusal.Refusal.TheVariants.{Wide, Memory}
use Rattle.hp_tree.specs.Limits.{most_lines, most_names}
use Rattle.hp_linear.specs.Steps.{Refusable}
use Rattle.hp_linear.specs.Lins.{lin_of}
use Rattle.hp_defs.specs.declared.names.Ground.{Ground}
use Rattle.hp_defs.specs.declared.names.Signature.{Signature}
use Rattle.hp_defs.specs.Names.{count, next, with_definition, words}
use Rattle.hp_defs.specs.Same.{place}
use Rattle.hp_base.specs.Making.{Maker, ◌then◌, computed, each, in_turn, keep}
use Rattle.hp_base.specs.Lines.{add_line, with_line}
use Rattle.hp_base.specs.Defining.{add_sum_line, definition_of, found_or_made, found_or_made_sum, made, made_sum, sum_literals, sum_of}
use Rattle.hp_base.specs.Arguments.{argument_of, lin_argument, is_alone, named_sum, parts_argument}
use Rattle.hp_base.specs.Congruence.{Point, congruence_literals, congruence_of}
use Rattle.hp_base.proofs.Growing.{came}

abbrev pub HasFewLines : Ground → Type 0
HasFewLines g = length g.lines ≤ most_lines

abbrev pub StaysFew : {A : Type 0} → Maker A → Type 0
StaysFew {A} m = (old new : Ground) (x : A) → m old ≡ Ok (x, new) → HasFewLines old → HasFewLines new

-- ---- steps
pub then_few : {A B : Type 0} (m : Maker A) (f : A → Maker B) → StaysFew m → ((x : A) → StaysFew (f x)) → StaysFew (λ g. m g then f)
then_few m f p q old new y e few =
    let c = came (m old) f y new e in
    q c.value c.mid new y c.rest (p old c.mid c.value c.first few)

pub value_few : {A : Type 0} (x : A) → StaysFew (λ g. Ok (x, g))
value_few {A} x old new y e few = subst HasFewLines (ap (λ (o : Result (A × Ground) Which). elim o [ Ok z ↦ z.1 | Err l ↦ old ]) e) few

stopped_few : {A : Type 0} (l : Which) → StaysFew {A = A} (λ g. Err l)
stopped_few l old new y e few = absurd (cc)

pub computed_few : {A : Type 0} (item : ℕ) (r : Refusable A) → StaysFew (computed item r)
computed_few item (Ok x) = value_few x
computed_few item (Err Wide) = stopped_few _
computed_few item (Err Memory) = stopped_few _

-- ---- lists
pub each_few : {N A : Type 0} (f : N → Maker A) (ns : List N) → ((n : N) → StaysFew (f n)) → StaysFew (each f ns)
each_few f [] p = value_few []
each_few f (n ∷ ns) p =
    then_few (f n) (λ x. λ mid. each f ns mid then λ xs. λ end. Ok (x ∷ xs, end)) (p n) (λ x. then_few (each f ns) (λ xs. λ end. Ok (x ∷ xs, end)) (each_few f ns p) (λ xs. value_few (x ∷ xs)))

pub in_turn_few : {N : Type 0} (f : N → Maker (Unit {0})) (ns : List N) → ((n : N) → StaysFew (f n)) → StaysFew (in_turn f ns)
in_turn_few f [] p = value_few tt
in_turn_few f (n ∷ ns) p = then_few (f n) (λ done. in_turn f ns) (p n) (λ done. in_turn_few f ns p)

-- ---- lines and definitions
length_more : {X : Type 0} (xs : List X) (x : X) → length (xs ++ x ∷ []) ≡ suc (length xs)
length_more [] x = refl
length_more (y ∷ xs) x = ap suc (length_more xs x)

lesser : (m n : ℕ) → nat_lt m n ≡ true → suc m ≤ n
lesser m n h = grind (arith, h)

one_more : {X : Type 0} (xs : List X) (x : X) (n : ℕ) → nat_lt (length xs) n ≡ true → length (xs ++ x ∷ []) ≤ n
one_more xs x n h = subst (λ k. k ≤ n) (sym (length_more xs x)) (lesser (length xs) n h)

limited : {A : Type 0} (b : Bool) (x : A) (next old new : Ground) (l : Which) (y : A)
    → (b ≡ true → HasFewLines next) → if◌then◌else◌ {A = Result (A × Ground) Which} b (Ok (x, next)) (Err l) ≡ Ok (y, new) → HasFewLines new
limited {A} true x next old new l y h e = subst HasFewLines (ap (λ (o : Result (A × Ground) Which). elim o [ Ok z ↦ z.1 | Err l ↦ old ]) e) (h refl)
limited false x next old new l y h e = absurd (cc)

pub line_few : (line : Line) → StaysFew (add_line line)
line_few line old new y e few = limited (nat_lt (length old.lines) most_lines) tt (with_line old line) old new _ y (λ h. one_more old.lines line most_lines h) e

made_few : (body : Body) → StaysFew (made body)
made_few body old new y e few =
    limited (nat_lt (count old.names) most_names) (next old.names) (record { names = with_definition old.names body; lines = old.lines }) old new _ y (λ h. few) e

found_few : (body : Body) (found : Option ℕ) → StaysFew (found_or_made body found)
found_few body None old new y e few = made_few body old new y e few
found_few body (Some k) old new y e few = value_few _ old new y e few

pub definition_few : (func : ℕ) (args : List Arg) → StaysFew (definition_of func args)
definition_few func args old new y e few = found_few (Apply func args) (place (Apply func args) old.names.definitions) old new y e few

sum_line_few : (item : ℕ) (lin : Lin) (name : Name) → StaysFew (add_sum_line item lin name)
sum_line_few item lin name = then_few (computed item (sum_literals name lin)) _ (computed_few item (sum_literals name lin)) (λ lits. line_few _)

made_sum_few : (item : ℕ) (lin : Lin) → StaysFew (made_sum item lin)
made_sum_few item lin =
    then_few (made (Sum lin)) (λ name. λ mid. add_sum_line item lin name mid then λ done. keep name) (made_few (Sum lin))
    (λ name. then_few (add_sum_line item lin name) (λ done. keep name) (sum_line_few item lin name) (λ done. value_few name))

found_sum_few : (item : ℕ) (lin : Lin) (found : Option ℕ) → StaysFew (found_or_made_sum item lin found)
found_sum_few item lin None old new y e few = made_sum_few item lin old new y e few
found_sum_few item lin (Some k) old new y e few = value_few _ old new y e few

sum_few : (item : ℕ) (lin : Lin) → StaysFew (sum_of item lin)
sum_few item lin old new y e few = found_sum_few item lin (place (Sum lin) old.names.definitions) old new y e few

-- ---- arguments
named_sum_few : (item : ℕ) (lin : Lin) → StaysFew (named_sum item lin)
named_sum_few item lin = then_few (sum_of item lin) _ (sum_few item lin) (λ name. value_few _)

alone_few : (b : Bool) (item : ℕ) (lin : Lin) (arg : Arg) → StaysFew (if b then keep arg else named_sum item lin)
alone_few true item lin arg = value_few arg
alone_few false item lin arg = named_sum_few item lin

parts_few : (item : ℕ) (lin : Lin) (parts : List LinPart) → StaysFew (parts_argument item lin parts)
parts_few item lin [] = value_few _
parts_few item lin (part ∷ []) = alone_few (is_alone part lin.rest) item lin _
parts_few item lin (part ∷ more ∷ parts) = named_sum_few item lin

pub argument_few : (item : ℕ) (sort : Sort) (term : Term) → StaysFew (argument_of item sort term)
argument_few item Num term old new y e few =
    then_few (computed item (lin_of (words old.names) term)) (lin_argument item) (computed_few item (lin_of (words old.names) term)) (λ lin. parts_few item lin lin.parts) old new y e few
argument_few item Idx term old new y e few = value_few _ old new y e few
argument_few item Ptr term old new y e few = value_few _ old new y e few

-- ---- congruence
pub congruence_few : (signature : Signature) (p q : Point) → StaysFew (congruence_of signature p q)
congruence_few signature p q = then_few (computed signature.item (congruence_literals signature p q)) _ (computed_few signature.item (congruence_literals signature p q)) (λ lits. line_few _)
