-- The function of a clause of monotone shape: a clause has a form over its own function, and over no other one.
use Rattle.std.proofs.Common.{◌≡◌, ◌∙◌, ℕ, List, [], ◌∷◌, ◌++◌, length, Bool, true, false, cond, inl, inr, map, Option, Some, None, Ok, refl, sym, ap, subst, arith}
use Rattle.std.specs.Prelude.{option_and_then, option_map, position, slice_get}
use Rattle.std.specs.Str.{bytes_eq}
use Rattle.std.proofs.lemmas.Option.{none-some, same_Some, slice_get-map}
use Rattle.std.specs.List.{All, Contains, list_all}
use Rattle.std.proofs.lemmas.Bool.{and_parts}
use Rattle.std.proofs.lemmas.List.Elements.{All-cons, All-contains, All-head, All-nil}
use Rattle.hp_num.proofs.Given as given
use Rattle.hp_tree.specs.declared.problem.Sort.{Sort}
use Rattle.hp_tree.specs.declared.problem.Sort.TheVariants.{Num}
use Rattle.hp_tree.specs.declared.term.Term.{Term, Apply, Name}
use Rattle.hp_tree.specs.declared.term.Term.TheOpen.{Term-F}
use Rattle.hp_tree.specs.declared.term.Term.TheVariants.{rolls-Apply, rolls-Name}
use Rattle.hp_tree.specs.Universal.{Universal}
use Rattle.hp_tree.specs.Value.{Word}
use Rattle.hp_terms.specs.Occurring.{joined}
use Rattle.hp_terms.specs.Scope.{Profile}
use Rattle.hp_local.specs.Monotone.{Shape, at_most, lower_term, shape_clause, upper_term}
use Rattle.hp_defs.specs.declared.names.Signature.{Signature}
use Rattle.hp_defs.specs.Made.{IsMade}
use Rattle.hp_defs.specs.Names.{NameList, function_words, profile_of, signature_name}
use Rattle.hp_defs.proofs.Distinct.{position_of}
use Rattle.hp_lit.proofs.Words.{numbered}
use Rattle.hp_norm.specs.declared.flat.FlatClause.{FlatClause}
use Rattle.hp_norm.specs.Flat.{IsFlat, universal_of}
use Rattle.hp_norm.specs.Scopes.{clause_scope, signature_named}
use Rattle.hp_class.proofs.Facts.{word_there}
use Rattle.hp_shapes.specs.declared.shape.Form.{Form}
use Rattle.hp_shapes.specs.Shapes.{form_of, shape_at, shape_of}
use Rattle.hp_shapes.proofs.Shapes.{form_shape, shapes_are_written}
use Rattle.hp_flatten.specs.declared.application.Application.{Application}
use Rattle.hp_flatten.specs.Applications.{applications, atoms_applications, clause_applications}
use Rattle.hp_flatten.specs.Laws.{AreNum}
use Rattle.hp_flatten.proofs.HoldsTerms.{applications_at, applications_apply}
use Rattle.hp_rules.specs.declared.ruled.Ruled.{Ruled}
use Rattle.hp_rules.specs.Rules.{application_place, first_word, form_over, is_num_function, monotone_place, monotone_places, nothing_ruled, read_clause, read_clauses}
use Rattle.hp_ruled.specs.Laws.{AreRuled}
use Rattle.hp_ruled.proofs.Applications.{IsApplied, atoms_applied, num_signature}
use Rattle.hp_ruled.proofs.Reading.{Read, clause_read}

-- the function of a clause of monotone shape, by its word
abbrev monotone_function : FlatClause → Option Word
monotone_function c = option_and_then (form_over c) (first_word (clause_applications c))

-- ---- applications of a clause of monotone shape
name_none : (word : Word) → applications (Name word) ≡ []
name_none word = ap applications (sym (rolls-Name word)) ∙ applications_at (Term-F.Name word)

apply_some : (func : Word) (args : List Term) → applications (Apply func args) ≡ record { func = func; args = args } ∷ joined (map applications args)
apply_some func args = ap applications (sym (rolls-Apply func args)) ∙ applications_apply func args

one_none : (b : Bool) (x y : Word) → applications (cond b (Name x) (Name y)) ≡ []
one_none true x y = name_none x
one_none false x y = name_none y

guard_none : (turned : Bool) (s t : Term) → applications s ≡ [] → applications t ≡ [] → atoms_applications (at_most turned s t ∷ []) ≡ []
guard_none true s t e f = λ i. (f i ++ e i) ++ []
guard_none false s t e f = λ i. (e i ++ f i) ++ []

-- the guard applies nothing, and the head first its function at one term
record AppliesFirst (u : Universal) (word : Word) : Type 0 where
  arg : Term
  more : List Application
  guard : atoms_applications u.guard ≡ []
  head : atoms_applications u.head ≡ record { func = word; args = arg ∷ [] } ∷ more

record IsFirst (word : Word) (apps : List Application) : Type 0 where
  arg : Term
  more : List Application
  is : apps ≡ record { func = word; args = arg ∷ [] } ∷ more

first_of : (func : Word) (arg : Term) (more : List Application) → IsFirst func ((applications (Apply func (arg ∷ [])) ++ more) ++ [])
first_of func arg more = record {
  arg = arg;
  more = (joined (map applications (arg ∷ [])) ++ more) ++ [];
  is = ap (λ (found : List Application). (found ++ more) ++ []) (apply_some func (arg ∷ []));
}

head_first : (func : Word) (turned b : Bool) (s t : Term)
    → IsFirst func (atoms_applications (at_most turned (cond b (Apply func (s ∷ [])) (Apply func (t ∷ []))) (cond b (Apply func (t ∷ [])) (Apply func (s ∷ []))) ∷ []))
head_first func true true s t = first_of func t (applications (Apply func (s ∷ [])))
head_first func true false s t = first_of func s (applications (Apply func (t ∷ [])))
head_first func false true s t = first_of func s (applications (Apply func (t ∷ [])))
head_first func false false s t = first_of func t (applications (Apply func (s ∷ [])))

shape_first : (func : Word) (shape : Shape) → AppliesFirst (shape_clause func shape) func
shape_first func shape =
    let h = head_first func shape.head_turned shape.rising (lower_term shape) (upper_term shape) in
    record {
      arg = h.arg;
      more = h.more;
      guard = guard_none shape.guard_turned (lower_term shape) (upper_term shape) (one_none shape.first_lower shape.first shape.second) (one_none shape.first_lower shape.second shape.first);
      head = h.is;
    }

-- ---- forms
-- so a clause with a form over a function applies that first
form_first : (c : FlatClause) (word : Word) (form : Form) → form_of word c.vars c.guard c.head ≡ Some form → AppliesFirst (universal_of c) word
form_first c word form e =
    let s = form_shape word c.vars c.guard c.head form e in
    let shape : shape_of (universal_of c) word ≡ Some s.shape = ap (option_and_then (shape_at c.vars)) e ∙ s.is in
    subst (λ (u : Universal). AppliesFirst u word) (sym (shapes_are_written (universal_of c) word s.shape shape)) (shape_first word s.shape)

pub form_head : (c : FlatClause) (word : Word) (form : Form) → form_of word c.vars c.guard c.head ≡ Some form → first_word (clause_applications c) ≡ Some word
form_head c word form e = let f = form_first c word form e in λ i. first_word (f.guard i ++ f.head i)

form_function : (c : FlatClause) (word : Word) (form : Form) → form_of word c.vars c.guard c.head ≡ Some form → monotone_function c ≡ Some word
form_function c word form e =
    ap (option_and_then (form_over c)) (form_head c word form e)
    ∙ ap (option_map (λ (f : Form). word)) e

-- and the function of a clause is one over which it has a form
record HasForm (c : FlatClause) (word : Word) : Type 0 where
  pub form : Form
  pub is : form_of word c.vars c.guard c.head ≡ Some form

function_form : (c : FlatClause) (word : Word) → monotone_function c ≡ Some word → HasForm c word
function_form c word = by (first_word (clause_applications c))
  where
    at : (w : Word) (o : Option Form) → form_of w c.vars c.guard c.head ≡ o → option_map (λ (f : Form). w) o ≡ Some word → HasForm c word
    at w None e h = absurd (none-some word h)
    at w (Some form) e h = record { form = form; is = subst (λ (z : Word). form_of z c.vars c.guard c.head ≡ Some form) (same_Some w word h) e }

    by : (o : Option Word) → option_and_then (form_over c) o ≡ Some word → HasForm c word
    by None h = absurd (none-some word h)
    by (Some w) h = at w (form_of w c.vars c.guard c.head) refl h

-- ---- places
-- a clause with a form over the function at a place has that place
pub form_place : (names : NameList) (c : FlatClause) (func : ℕ) (s : Signature) (form : Form) → IsMade names → slice_get names.signatures func ≡ Some s
    → form_of s.name c.vars c.guard c.head ≡ Some form → monotone_place names c ≡ Some func
form_place names c func s form made known e =
    ap (option_and_then (λ (word : Word). position (bytes_eq word) (function_words names))) (form_function c s.name form e)
    ∙ position_of (function_words names) func s.name made.functions (word_there names.signatures func s known)

-- the function of a clause, and the form over it
pub record HasPlace (names : NameList) (c : FlatClause) (func : ℕ) : Type 0 where
  pub signature : Signature
  pub known : slice_get names.signatures func ≡ Some signature
  pub form : Form
  pub is : form_of signature.name c.vars c.guard c.head ≡ Some form

-- the word of a place is that of a signature
record StandsAt (ss : List Signature) (k : ℕ) (word : Word) : Type 0 where
  signature : Signature
  known : slice_get ss k ≡ Some signature
  name : signature.name ≡ word

stands_at : (names : NameList) (k : ℕ) (word : Word) → slice_get (function_words names) k ≡ Some word → StandsAt names.signatures k word
stands_at names k word e = by (slice_get names.signatures k) refl
  where
    by : (o : Option Signature) → slice_get names.signatures k ≡ o → StandsAt names.signatures k word
    by None f = absurd (none-some word (sym (slice_get-map signature_name names.signatures k ∙ ap (option_map signature_name) f) ∙ e))
    by (Some s) f = record {
      signature = s;
      known = f;
      name = same_Some s.name word (sym (word_there names.signatures k s f) ∙ e);
    }

pub word_at : (ws : List Word) (word : Word) (k : ℕ) → position (bytes_eq word) ws ≡ Some k → slice_get ws k ≡ Some word
word_at ws word k e = (numbered ws word (record { 0 = k }) (ap (option_map (λ (at : ℕ). record { 0 = at })) e)).there

pub place_form : (names : NameList) (c : FlatClause) (func : ℕ) → monotone_place names c ≡ Some func → HasPlace names c func
place_form names c func = by (monotone_function c) refl
  where
    by : (o : Option Word) → monotone_function c ≡ o → option_and_then (λ (word : Word). position (bytes_eq word) (function_words names)) o ≡ Some func → HasPlace names c func
    by None e h = absurd (none-some func h)
    by (Some word) e h =
        let at = stands_at names func word (word_at (function_words names) word func h) in
        let f = function_form c word e in
        record {
          signature = at.signature;
          known = at.known;
          form = f.form;
          is = ap (λ (w : Word). form_of w c.vars c.guard c.head) at.name ∙ f.is;
        }

-- ---- sorts
-- the first function of a clause of monotone shape that was read is of num to num
abbrev IsFirstNum : NameList → FlatClause → Type 0
IsFirstNum names c = (func : ℕ) → monotone_place names c ≡ Some func → (a : Application) (more : List Application) → clause_applications c ≡ a ∷ more → is_num_function names (application_place names a) ≡ true

clause_first : (names : NameList) (monotone : List ℕ) (before : Ruled) (c : FlatClause) (after : Ruled) → Read names monotone before c after → IsFirstNum names c
clause_first names monotone before c after (inl r) func m a more is =
    let numeric = λ (x : Application). is_num_function names (application_place names x) in
    (and_parts (numeric a) (list_all numeric more) (sym (ap (list_all numeric) is) ∙ r.nums)).0
clause_first names monotone before c after (inr (inl r)) func m a more is = absurd (none-some func (sym r.none ∙ m))
clause_first names monotone before c after (inr (inr r)) func m a more is = absurd (none-some func (sym r.none ∙ m))

all_first : (names : NameList) (monotone : List ℕ) (clauses : List FlatClause) (before ruled : Ruled) → read_clauses names monotone before clauses ≡ Ok ruled → All (IsFirstNum names) clauses
all_first names monotone [] before ruled e = All-nil (IsFirstNum names)
all_first names monotone (c ∷ clauses) before ruled e =
    let s = given.came (read_clause names monotone before c) (λ next. read_clauses names monotone next clauses) ruled e in
    All-cons (IsFirstNum names) c clauses (clause_first names monotone before c s.value (clause_read names monotone before c s.value s.first)) (all_first names monotone clauses s.value ruled s.rest)

one_num : (sorts : List Sort) → AreNum sorts → 1 ≡ length sorts → sorts ≡ Num ∷ []
one_num [] h e = absurd (cc)
one_num (x ∷ []) h e = ap (λ (z : Sort). z ∷ []) (All-head (λ (z : Sort). z ≡ Num) x [] h)
one_num (x ∷ y ∷ more) h e = absurd (omega (arith, e))

-- the function of a clause of monotone shape is of num to num, with one argument
pub record AreOneNum (s : Signature) : Type 0 where
  pub args : s.args ≡ Num ∷ []
  pub result : s.result ≡ Num

pub form_nums : (names : NameList) (clauses : List FlatClause) (ruled : Ruled) → AreRuled names clauses ruled → (func : ℕ) (s : Signature) → slice_get names.signatures func ≡ Some s
    → (c : FlatClause) (form : Form) → Contains clauses c → form_of s.name c.vars c.guard c.head ≡ Some form → AreOneNum s
form_nums names clauses ruled is func s known c form m e =
    let f = form_first c s.name form e in
    let a : Application = record { func = s.name; args = f.arg ∷ [] } in
    let place : application_place names a ≡ Some func = position_of (function_words names) func s.name is.made.functions (word_there names.signatures func s known) in
    let first = All-contains (IsFirstNum names) clauses c (all_first names (monotone_places names clauses) clauses nothing_ruled ruled is.ruled_is) m func (form_place names c func s form is.made known e) a f.more (λ i. f.guard i ++ f.head i) in
    let num = num_signature names func (subst (λ (o : Option ℕ). is_num_function names o ≡ true) place first) in
    let same : num.signature ≡ s = same_Some num.signature s (sym num.there ∙ known) in
    let scope = clause_scope names c.vars in
    let flat = All-contains (IsFlat names) clauses c is.flat m in
    let applied = All-head (IsApplied scope (length (a ∷ f.more))) a f.more
    (subst (λ (apps : List Application). All (IsApplied scope (length apps)) apps) f.head (atoms_applied scope c.head flat.head)) in
    let named : signature_named names s.name ≡ Some s = ap (option_and_then (λ (at : ℕ). slice_get names.signatures at)) place ∙ known in
    let profile : profile_of s ≡ applied.profile = same_Some (profile_of s) applied.profile (sym (ap (option_map profile_of) named) ∙ applied.known) in
    let count : 1 ≡ length s.args = applied.count ∙ ap (λ (p : Profile). length p.args) (sym profile) in
    record {
      args = one_num s.args (subst (λ (z : Signature). AreNum z.args) same num.nums) count;
      result = subst (λ (z : Signature). z.result ≡ Num) same num.result;
    }
