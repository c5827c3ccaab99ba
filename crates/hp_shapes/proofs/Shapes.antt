-- Clauses of monotone shape are written as their forms say, and each of them is found.
use Rattle.std.proofs.Common.{◌≡◌, List, [], ◌∷◌, Bool, true, false, ◌&&◌, not, cond, map, Option, Some, None, refl, sym, ap, subst, ◌∙◌, ◌⊎◌, inl, inr, length, get_or, arith}
use Rattle.std.specs.Prelude.{option_and_then}
use Rattle.std.specs.Str.{bytes_eq}
use Rattle.std.proofs.lemmas.Bool.{and_from, and_parts, false_from_ne_true}
use Rattle.std.proofs.lemmas.Slice.Eq.{bytes_eq-Decides}
use Rattle.hp_tree.specs.declared.term.Term.{Term, Name, Apply, fold-roll-Term, ind-Term, map-Term, roll-Term}
use Rattle.hp_tree.specs.declared.term.Term.TheOpen.{Term-F}
use Rattle.hp_tree.specs.declared.term.Term.TheVariants.{rolls-Apply, rolls-Name}
use Rattle.hp_tree.specs.declared.problem.Atom.{Atom}
use Rattle.hp_tree.specs.declared.problem.Cmp.{Cmp}
use Rattle.hp_tree.specs.declared.problem.Cmp.TheVariants.{Le, Lt, Eq, Ne, Ge, Gt}
use Rattle.hp_tree.specs.declared.problem.Sort.{Sort}
use Rattle.hp_tree.specs.declared.problem.Sort.TheVariants.{Num, Idx, Ptr}
use Rattle.hp_tree.specs.declared.problem.Var.{Var}
use Rattle.hp_tree.specs.Value.{Word}
use Rattle.hp_local.specs.Monotone.{at_most, Shape, shape_clause}
use Rattle.hp_local.proofs.Steps.{same_bytes}
use Rattle.hp_shapes.specs.declared.shape.Form.{Form}
use Rattle.hp_shapes.specs.declared.shape.Sides.{Sides}
use Rattle.hp_shapes.specs.Shapes.{Look, atoms_form, form_from, form_of, is_name, is_num, is_value, look, look_step, one_named, shape_at, shape_of, sides_from, sides_of, ShapesAreFound, ShapesAreWritten}

-- ---- terms
not_both : (b : Bool) → b ≡ false → b ≡ true → ⊥
not_both b f t = (let both : false ≡ true = sym f ∙ t in cc)

abbrev value_term : Word → Word → Term
value_term func word = Apply func (Name word ∷ [])

module _ (func word : Word) where
  name_at : (w : Word) → look func word (Name w) ≡ record { named = bytes_eq w word; valued = false }
  name_at w = ap (look func word) (sym (rolls-Name w)) ∙ fold-roll-Term Look (look_step func word) (Term-F.Name w)

  apply_at : (g : Word) (args : List Term) → look func word (Apply g args) ≡ record { named = false; valued = bytes_eq g func && one_named (map (look func word) args) }
  apply_at g args = ap (look func word) (sym (rolls-Apply g args)) ∙ fold-roll-Term Look (look_step func word) (Term-F.Apply g args)

  abbrev IsNamed : Term → Type 0
  IsNamed t = is_name func word t ≡ true → t ≡ Name word

  abbrev looked : (y : Term-F Term) → look func word (roll-Term y) ≡ look_step func word (map-Term Term Look (look func word) y)
  looked y = fold-roll-Term Look (look_step func word) y

  named_layer : (y : Term-F ((t : Term) × IsNamed t)) → IsNamed (roll-Term (map-Term ((t : Term) × IsNamed t) Term (λ e. e.0) y))
  named_layer (Term-F.Name w) h =
      let t : bytes_eq w word ≡ true = sym (ap (λ (l : Look). l.named) (looked (Term-F.Name w))) ∙ h in
      rolls-Name w ∙ ap (λ (z : Word). Name z) ((bytes_eq-Decides w word).0 t)
  named_layer (Term-F.Apply g args) h = absurd (not_both _ (ap (λ (l : Look). l.named) (looked (Term-F.Apply g (map (λ e. e.0) args)))) h)
  named_layer (Term-F.Number q) h = absurd (not_both _ (ap (λ (l : Look). l.named) (looked (Term-F.Number q))) h)
  named_layer Term-F.Null h = absurd (not_both _ (ap (λ (l : Look). l.named) (looked Term-F.Null)) h)
  named_layer (Term-F.Add a b) h = absurd (not_both _ (ap (λ (l : Look). l.named) (looked (Term-F.Add a.0 b.0))) h)
  named_layer (Term-F.Sub a b) h = absurd (not_both _ (ap (λ (l : Look). l.named) (looked (Term-F.Sub a.0 b.0))) h)
  named_layer (Term-F.Neg a) h = absurd (not_both _ (ap (λ (l : Look). l.named) (looked (Term-F.Neg a.0))) h)
  named_layer (Term-F.Scale q a) h = absurd (not_both _ (ap (λ (l : Look). l.named) (looked (Term-F.Scale q a.0))) h)

  name_is : (t : Term) → is_name func word t ≡ true → t ≡ Name word
  name_is t = ind-Term IsNamed (λ x y is. subst (λ z. IsNamed (roll-Term z)) is (named_layer y)) t

  names_are : (ts : List Term) → one_named (map (look func word) ts) ≡ true → ts ≡ Name word ∷ []
  names_are [] h = absurd (cc)
  names_are (t ∷ []) h = ap (λ z. z ∷ []) (name_is t h)
  names_are (t ∷ s ∷ ts) h = absurd (cc)

  abbrev IsValued : Term → Type 0
  IsValued t = is_value func word t ≡ true → t ≡ value_term func word

  valued_layer : (y : Term-F ((t : Term) × IsValued t)) → IsValued (roll-Term (map-Term ((t : Term) × IsValued t) Term (λ e. e.0) y))
  valued_layer (Term-F.Name w) h = absurd (not_both _ (ap (λ (l : Look). l.valued) (looked (Term-F.Name w))) h)
  valued_layer (Term-F.Apply g args) h =
      let ts : List Term = map (λ e. e.0) args in
      let t : (bytes_eq g func && one_named (map (look func word) ts)) ≡ true = sym (ap (λ (l : Look). l.valued) (looked (Term-F.Apply g ts))) ∙ h in
      let both = and_parts (bytes_eq g func) (one_named (map (look func word) ts)) t in
      let one : g ≡ func = (bytes_eq-Decides g func).0 both.0 in
      let two : ts ≡ Name word ∷ [] = names_are ts both.1 in
      rolls-Apply g ts ∙ (λ j. Apply (one j) (two j))
  valued_layer (Term-F.Number q) h = absurd (not_both _ (ap (λ (l : Look). l.valued) (looked (Term-F.Number q))) h)
  valued_layer Term-F.Null h = absurd (not_both _ (ap (λ (l : Look). l.valued) (looked Term-F.Null)) h)
  valued_layer (Term-F.Add a b) h = absurd (not_both _ (ap (λ (l : Look). l.valued) (looked (Term-F.Add a.0 b.0))) h)
  valued_layer (Term-F.Sub a b) h = absurd (not_both _ (ap (λ (l : Look). l.valued) (looked (Term-F.Sub a.0 b.0))) h)
  valued_layer (Term-F.Neg a) h = absurd (not_both _ (ap (λ (l : Look). l.valued) (looked (Term-F.Neg a.0))) h)
  valued_layer (Term-F.Scale q a) h = absurd (not_both _ (ap (λ (l : Look). l.valued) (looked (Term-F.Scale q a.0))) h)

  value_is : (t : Term) → is_value func word t ≡ true → t ≡ value_term func word
  value_is t = ind-Term IsValued (λ x y is. subst (λ z. IsValued (roll-Term z)) is (valued_layer y)) t

-- what the code reads of a term
pub one_named_is : (func word : Word) (ts : List Term) (t : Term) (b : Bool) → length ts ≡ 1 → t ≡ get_or ts 0 t → b ≡ is_name func word t → b ≡ one_named (map (look func word) ts)
one_named_is func word [] t b h e is = absurd (cc)
one_named_is func word (u ∷ []) t b h e is = is ∙ ap (is_name func word) e
one_named_is func word (u ∷ v ∷ ts) t b h e is = absurd (omega (arith, h))

pub value_read : (func word g : Word) (args : List Term) (t : Term) (b : Bool) → t ≡ Apply g args → bytes_eq g func ≡ true → b ≡ one_named (map (look func word) args) → b ≡ is_value func word t
value_read func word g args t b e h is =
    is ∙ ap (λ x. x && one_named (map (look func word) args)) (sym h)
    ∙ sym (ap (λ (l : Look). l.valued) (ap (look func word) e ∙ apply_at func word g args))

pub atoms_read : (func : Word) (x y : Var) (guard head : Atom) (g h : Option Sides) (r : Option Form) → is_num x.sort ≡ true → is_num y.sort ≡ true
    → g ≡ sides_of (is_name func) x.name y.name guard → h ≡ sides_of (is_value func) x.name y.name head → r ≡ form_from g h → r ≡ atoms_form func x y guard head
atoms_read func x y guard head g h r a b e d is =
    is ∙ (λ j. form_from (e j) (d j))
    ∙ ap (λ t. cond t (form_from (sides_of (is_name func) x.name y.name guard) (sides_of (is_value func) x.name y.name head)) None) (sym (and_from (is_num x.sort) (is_num y.sort) a b))

pub form_read : (func : Word) (vars : List Var) (guard head : List Atom) (x y : Var) (g h : Atom) (r : Option Form) → length vars ≡ 2 → x ≡ get_or vars 0 x → y ≡ get_or vars 1 y
    → length guard ≡ 1 → g ≡ get_or guard 0 g → length head ≡ 1 → h ≡ get_or head 0 h → r ≡ atoms_form func x y g h → r ≡ form_of func vars guard head
form_read func (u ∷ v ∷ []) (a ∷ []) (b ∷ []) x y g h r n e f m i l j is = is ∙ (λ k. atoms_form func (e k) (f k) (i k) (j k))
form_read func [] guard head x y g h r n e f m i l j is = absurd (cc)
form_read func (u ∷ []) guard head x y g h r n e f m i l j is = absurd (omega (arith, n))
form_read func (u ∷ v ∷ w ∷ vars) guard head x y g h r n e f m i l j is = absurd (omega (arith, n))
form_read func (u ∷ v ∷ []) [] head x y g h r n e f m i l j is = absurd (cc)
form_read func (u ∷ v ∷ []) (a ∷ c ∷ guard) head x y g h r n e f m i l j is = absurd (omega (arith, m))
form_read func (u ∷ v ∷ []) (a ∷ []) [] x y g h r n e f m i l j is = absurd (cc)
form_read func (u ∷ v ∷ []) (a ∷ []) (b ∷ c ∷ head) x y g h r n e f m i l j is = absurd (omega (arith, l))

-- ---- sides
abbrev between : (Word → Term) → Word → Word → Sides → Atom
between made x y s = at_most s.turned (cond s.first_less (made x) (made y)) (cond s.first_less (made y) (made x))

chosen : (forward backward turned : Bool) (s : Sides) → sides_from forward backward (Some turned) ≡ Some s
    → ((forward ≡ true) × (record { first_less = not turned; turned = turned } ≡ s)) ⊎ ((backward ≡ true) × (record { first_less = turned; turned = turned } ≡ s))
chosen true backward turned s e = inl (refl, cc)
chosen false true turned s e = inr (refl, cc)
chosen false false turned s e = absurd (cc)

module _ (test : Word → Term → Bool) (made : Word → Term) (is : (word : Word) (t : Term) → test word t ≡ true → t ≡ made word) (x y : Word) where
  written_at : (left right : Term) (cmp : Cmp) (s : Sides) → sides_of test x y (record { left = left; cmp = cmp; right = right }) ≡ Some s
      → record { left = left; cmp = cmp; right = right } ≡ between made x y s
  written_at left right Le s e = by (chosen (test x left && test y right) (test y left && test x right) false s e)
    where
      by : (((test x left && test y right) ≡ true) × (record { first_less = true; turned = false } ≡ s)) ⊎ (((test y left && test x right) ≡ true) × (record { first_less = false; turned = false } ≡ s))
          → record { left = left; cmp = Le; right = right } ≡ between made x y s
      by (inl h) = (let p = and_parts (test x left) (test y right) h.0 in let l = is x left p.0 in let r = is y right p.1 in (λ j. record { left = l j; cmp = Le; right = r j }) ∙ ap (between made x y) h.1)
      by (inr h) = (let p = and_parts (test y left) (test x right) h.0 in let l = is y left p.0 in let r = is x right p.1 in (λ j. record { left = l j; cmp = Le; right = r j }) ∙ ap (between made x y) h.1)
  written_at left right Ge s e = by (chosen (test x left && test y right) (test y left && test x right) true s e)
    where
      by : (((test x left && test y right) ≡ true) × (record { first_less = false; turned = true } ≡ s)) ⊎ (((test y left && test x right) ≡ true) × (record { first_less = true; turned = true } ≡ s))
          → record { left = left; cmp = Ge; right = right } ≡ between made x y s
      by (inl h) = (let p = and_parts (test x left) (test y right) h.0 in let l = is x left p.0 in let r = is y right p.1 in (λ j. record { left = l j; cmp = Ge; right = r j }) ∙ ap (between made x y) h.1)
      by (inr h) = (let p = and_parts (test y left) (test x right) h.0 in let l = is y left p.0 in let r = is x right p.1 in (λ j. record { left = l j; cmp = Ge; right = r j }) ∙ ap (between made x y) h.1)
  written_at left right Lt s e = absurd (cc)
  written_at left right Eq s e = absurd (cc)
  written_at left right Ne s e = absurd (cc)
  written_at left right Gt s e = absurd (cc)

-- ---- forms
num_is : (sort : Sort) → is_num sort ≡ true → sort ≡ Num
num_is Num h = refl
num_is Idx h = absurd (cc)
num_is Ptr h = absurd (cc)

abbrev form_at : Sides → Sides → Form
form_at g h = record { first_lower = g.first_less; rising = cond g.first_less h.first_less (not h.first_less); guard_turned = g.turned; head_turned = h.turned }

-- the sides that a form comes from
record Came (f : Form → Option Shape) (guard head : Option Sides) (shape : Shape) : Type 0 where
  g : Sides
  h : Sides
  guard_is : guard ≡ Some g
  head_is : head ≡ Some h
  shape_is : f (form_at g h) ≡ Some shape

came : (f : Form → Option Shape) (guard head : Option Sides) (shape : Shape) → option_and_then f (form_from guard head) ≡ Some shape → Came f guard head shape
came f None head shape e = absurd (cc)
came f (Some g) None shape e = absurd (cc)
came f (Some g) (Some h) shape e = record { g = g; h = h; guard_is = refl; head_is = refl; shape_is = e }

tested : (f : Form → Option Shape) (b : Bool) (o : Option Form) (shape : Shape) → option_and_then f (cond b o None) ≡ Some shape → (b ≡ true) × (option_and_then f o ≡ Some shape)
tested f true o shape e = (refl, e)
tested f false o shape e = absurd (cc)

-- the shape of two variables with these sides
abbrev shaped : Word → Word → Sides → Sides → Shape
shaped x y g h = record {
  first = x;
  second = y;
  first_lower = g.first_less;
  rising = cond g.first_less h.first_less (not h.first_less);
  guard_turned = g.turned;
  head_turned = h.turned;
}

-- its clause
two_names : (x y : Word) (b : Bool) → cond b (Name x) (Name y) ≡ Name (cond b x y)
two_names x y true = refl
two_names x y false = refl

heads : (func x y : Word) (g h turned : Bool)
    → at_most turned (cond h (value_term func x) (value_term func y)) (cond h (value_term func y) (value_term func x))
    ≡ at_most turned
    (cond (cond g h (not h)) (Apply func (cond g (Name x) (Name y) ∷ [])) (Apply func (cond g (Name y) (Name x) ∷ [])))
    (cond (cond g h (not h)) (Apply func (cond g (Name y) (Name x) ∷ [])) (Apply func (cond g (Name x) (Name y) ∷ [])))
heads func x y true true turned = refl
heads func x y true false turned = refl
heads func x y false true turned = refl
heads func x y false false turned = refl

atoms_written : (func : Word) (x y : Var) (guard head : Atom) (g h : Sides) → x.sort ≡ Num → y.sort ≡ Num
    → guard ≡ between (λ (w : Word). Name w) x.name y.name g → head ≡ between (value_term func) x.name y.name h
    → record { vars = x ∷ y ∷ []; guard = guard ∷ []; head = head ∷ [] } ≡ shape_clause func (shaped x.name y.name g h)
atoms_written func x y guard head g h p q e d =
    let first : x ≡ record { name = x.name; sort = Num } = (λ j. record { name = x.name; sort = p j }) in
    let second : y ≡ record { name = y.name; sort = Num } = (λ j. record { name = y.name; sort = q j }) in
    let last = d ∙ heads func x.name y.name g.first_less h.first_less h.turned in
    (λ j. record { vars = first j ∷ second j ∷ []; guard = e j ∷ []; head = last j ∷ [] })

two_written : (func : Word) (x y : Var) (guard head : Atom) (shape : Shape)
    → option_and_then (shape_at (x ∷ y ∷ [])) (atoms_form func x y guard head) ≡ Some shape
    → record { vars = x ∷ y ∷ []; guard = guard ∷ []; head = head ∷ [] } ≡ shape_clause func shape
two_written func x y guard head shape e =
    let f = shape_at (x ∷ y ∷ []) in
    let S = sides_of (is_name func) x.name y.name guard in
    let T = sides_of (is_value func) x.name y.name head in
    let t = tested f (is_num x.sort && is_num y.sort) (form_from S T) shape e in
    let sorts = and_parts (is_num x.sort) (is_num y.sort) t.0 in
    let c = came f S T shape t.1 in
    let is : shaped x.name y.name c.g c.h ≡ shape = (let same = c.shape_is in cc) in
    atoms_written func x y guard head c.g c.h (num_is x.sort sorts.0) (num_is y.sort sorts.1)
    (written_at (is_name func) (λ (w : Word). Name w) (name_is func) x.name y.name guard.left guard.right guard.cmp c.g c.guard_is)
    (written_at (is_value func) (value_term func) (value_is func) x.name y.name head.left head.right head.cmp c.h c.head_is)
    ∙ ap (shape_clause func) is

lists_written : (func : Word) (vars : List Var) (guard head : List Atom) (shape : Shape)
    → option_and_then (shape_at vars) (form_of func vars guard head) ≡ Some shape
    → record { vars = vars; guard = guard; head = head } ≡ shape_clause func shape
lists_written func [] guard head shape e = absurd (cc)
lists_written func (x ∷ []) guard head shape e = absurd (cc)
lists_written func (x ∷ y ∷ z ∷ vars) guard head shape e = absurd (cc)
lists_written func (x ∷ y ∷ []) [] head shape e = absurd (cc)
lists_written func (x ∷ y ∷ []) (g ∷ k ∷ guard) head shape e = absurd (cc)
lists_written func (x ∷ y ∷ []) (g ∷ []) [] shape e = absurd (cc)
lists_written func (x ∷ y ∷ []) (g ∷ []) (h ∷ k ∷ head) shape e = absurd (cc)
lists_written func (x ∷ y ∷ []) (g ∷ []) (h ∷ []) shape e = two_written func x y g h shape e

pub shapes_are_written : ShapesAreWritten
shapes_are_written u func shape e = lists_written func u.vars u.guard u.head shape e

-- ---- each of the sixteen is found
-- the sides of an atom, by the tests of its terms
abbrev Tests : (Word → Term → Bool) → (Word → Term) → Word → Word → Type 0
Tests test made x y = (test x (made x) ≡ true) × (test x (made y) ≡ false) × (test y (made y) ≡ true) × (test y (made x) ≡ false)

sides_found : (test : Word → Term → Bool) (made : Word → Term) (x y : Word) → Tests test made x y → (first_less turned : Bool)
    → sides_of test x y (at_most turned (cond first_less (made x) (made y)) (cond first_less (made y) (made x))) ≡ Some (record { first_less = first_less; turned = turned })
sides_found test made x y t true true = simp (t.0, t.1, t.2, t.3) refl
sides_found test made x y t true false = simp (t.0, t.1, t.2, t.3) refl
sides_found test made x y t false true = simp (t.0, t.1, t.2, t.3) refl
sides_found test made x y t false false = simp (t.0, t.1, t.2, t.3) refl

module _ (func x y : Word) (different : bytes_eq x y ≡ false) (other : bytes_eq y x ≡ false) where
  name_tests : Tests (is_name func) (λ (w : Word). Name w) x y
  name_tests = (
    ap (λ (l : Look). l.named) (name_at func x x) ∙ same_bytes x,
    ap (λ (l : Look). l.named) (name_at func x y) ∙ other,
    ap (λ (l : Look). l.named) (name_at func y y) ∙ same_bytes y,
    ap (λ (l : Look). l.named) (name_at func y x) ∙ different,
  )

  valued_at : (word w : Word) → is_value func word (value_term func w) ≡ bytes_eq w word
  valued_at word w =
      ap (λ (l : Look). l.valued) (apply_at func word func (Name w ∷ []))
      ∙ ap (λ b. b && is_name func word (Name w)) (same_bytes func)
      ∙ ap (λ (l : Look). l.named) (name_at func word w)

  value_tests : Tests (is_value func) (value_term func) x y
  value_tests = (valued_at x x ∙ same_bytes x, valued_at x y ∙ other, valued_at y y ∙ same_bytes y, valued_at y x ∙ different)

rise_again : (low rising : Bool) → cond low (cond low rising (not rising)) (not (cond low rising (not rising))) ≡ rising
rise_again true true = refl
rise_again true false = refl
rise_again false true = refl
rise_again false false = refl

head_sides : (func x y : Word) (low rising turned : Bool)
    → at_most turned
    (cond rising (Apply func (cond low (Name x) (Name y) ∷ [])) (Apply func (cond low (Name y) (Name x) ∷ [])))
    (cond rising (Apply func (cond low (Name y) (Name x) ∷ [])) (Apply func (cond low (Name x) (Name y) ∷ [])))
    ≡ at_most turned (cond (cond low rising (not rising)) (value_term func x) (value_term func y)) (cond (cond low rising (not rising)) (value_term func y) (value_term func x))
head_sides func x y true true turned = refl
head_sides func x y true false turned = refl
head_sides func x y false true turned = refl
head_sides func x y false false turned = refl

found_at : (func x y : Word) → bytes_eq x y ≡ false → bytes_eq y x ≡ false → (low rising guard_turned head_turned : Bool)
    → let shape : Shape = record { first = x; second = y; first_lower = low; rising = rising; guard_turned = guard_turned; head_turned = head_turned } in
    shape_of (shape_clause func shape) func ≡ Some shape
found_at func x y different other low rising guard_turned head_turned =
    let f = shape_at (record { name = x; sort = Num } ∷ record { name = y; sort = Num } ∷ []) in
    let guard = sides_found (is_name func) (λ (w : Word). Name w) x y (name_tests func x y different other) low guard_turned in
    let head = ap (sides_of (is_value func) x y) (head_sides func x y low rising head_turned)
    ∙ sides_found (is_value func) (value_term func) x y (value_tests func x y different other) (cond low rising (not rising)) head_turned in
    (λ j. option_and_then f (form_from (guard j) (head j)))
    ∙ ap (λ b. f (record { first_lower = low; rising = b; guard_turned = guard_turned; head_turned = head_turned })) (rise_again low rising)

pub shapes_are_found : ShapesAreFound
shapes_are_found func shape different =
    let other : bytes_eq shape.second shape.first ≡ false = false_from_ne_true (bytes_eq shape.second shape.first)
    (λ t. (let same = (bytes_eq-Decides shape.first shape.second).1 (sym ((bytes_eq-Decides shape.second shape.first).0 t)) in cc)) in
    found_at func shape.first shape.second different other
    shape.first_lower shape.rising shape.guard_turned shape.head_turned

-- ---- the shape of a form that was found
pub record HasShape (vars : List Var) (form : Form) : Type 0 where
  pub shape : Shape
  pub is : shape_at vars form ≡ Some shape
  pub first_lower : shape.first_lower ≡ form.first_lower

pub form_shape : (func : Word) (vars : List Var) (guard head : List Atom) (form : Form) → form_of func vars guard head ≡ Some form → HasShape vars form
form_shape func [] guard head form e = absurd (cc)
form_shape func (x ∷ []) guard head form e = absurd (cc)
form_shape func (x ∷ y ∷ z ∷ vars) guard head form e = absurd (cc)
form_shape func (x ∷ y ∷ []) guard head form e = record {
  shape = record {
    first = x.name;
    second = y.name;
    first_lower = form.first_lower;
    rising = form.rising;
    guard_turned = form.guard_turned;
    head_turned = form.head_turned;
  };
  is = refl;
  first_lower = refl;
}
