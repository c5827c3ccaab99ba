-- A state whose first clauses were given up goes on as the whole one does.
use Rattle.std.proofs.Common.{◌≡◌, Bool, true, false, List, [], ◌∷◌, ◌++◌, Option, Some, None, refl, sym, ap, subst, ◌∙◌, append_assoc}
use Rattle.std.specs.Prelude.{if◌then◌else◌}
use Rattle.hp_tree.specs.declared.problem.Atom.{Atom}
use Rattle.hp_tree.specs.declared.problem.Clause.{Clause}
use Rattle.hp_tree.specs.declared.problem.Problem.{Problem}
use Rattle.hp_tree.specs.declared.problem.Var.{Var}
use Rattle.hp_text.specs.declared.token.Kind.{Kind}
use Rattle.hp_text.specs.declared.token.Kind.TheVariants as kinds
use Rattle.hp_body.specs.declared.body.Body.{Body as BodyState}
use Rattle.hp_body.specs.declared.body.Place.TheVariants.{First as Head}
use Rattle.hp_read.specs.declared.lines.Constants.TheVariants as constants
use Rattle.hp_read.specs.declared.lines.Function.TheVariants as function
use Rattle.hp_read.specs.declared.lines.Variables.{Variables as VariablesState}
use Rattle.hp_read.specs.declared.lines.Variables.TheVariants.{First}
use Rattle.hp_read.specs.declared.stage.Stage.{Stage}
use Rattle.hp_read.specs.declared.stage.Stage.TheVariants.{Start, Profile, Numbered, Whole, Constants, Function, Clause as ClauseWord, Variables, Body}
use Rattle.hp_read.specs.declared.stage.Progress.{Progress}
use Rattle.hp_grammar.specs.declared.symbol.Symbol.{Symbol as Token}
use Rattle.hp_grammar.specs.declared.symbol.Symbol.TheVariants.{Word as word, Name as name, Numeral as numeral}
use Rattle.hp_grammar.specs.Token.{same}
use Rattle.hp_grammar.specs.Problems.{problem_of, clause_of}
use Rattle.hp_grammar.specs.Runs.{◌and_then◌}
use Rattle.hp_body.specs.BodyMachine.{begun, body_step, body_end}
use Rattle.hp_read.specs.Stages.{variables_step, variables_end}
use Rattle.hp_read.specs.Top.{at, with_item, ends_with, declaration, between, item_goes, at_whole, at_clause, variables_stage, body_stage, stage_step, top_step}
use Rattle.hp_read.specs.Printed.{with_before, resumed, HasClause, IsItem, IsHeld}

-- ---- what a step gives, through a function, and what holds of it

abbrev pub over : {A B : Type 0} → (A → B) → Option A → Option B
over f None = None
over f (Some a) = Some (f a)

over_choice : {A B : Type 0} (f : A → B) (b : Bool) (x y : Option A) (u v : Option B) → u ≡ over f x → v ≡ over f y → (if b then u else v) ≡ over f (if b then x else y)
over_choice f true x y u v g h = g
over_choice f false x y u v g h = h

over_then : {A B C : Type 0} (f : B → C) (o : Option A) (g : A → Option B) (h : A → Option C) → ((a : A) → h a ≡ over f (g a)) → (o and_then h) ≡ over f (o and_then g)
over_then f None g h e = refl
over_then f (Some a) g h e = e a

abbrev pub Always : {A : Type 0} → (A → Type 0) → Option A → Type 0
Always P None = Unit {0}
Always P (Some a) = P a

always_choice : {A : Type 0} (P : A → Type 0) (b : Bool) (x y : Option A) → Always P x → Always P y → Always P (if b then x else y)
always_choice P true x y g h = g
always_choice P false x y g h = h

always_then : {A B : Type 0} (P : B → Type 0) (o : Option A) (g : A → Option B) → ((a : A) → Always P (g a)) → Always P (o and_then g)
always_then P None g h = tt
always_then P (Some a) g h = h a

pub always_is : {A : Type 0} (P : A → Type 0) (o : Option A) (a : A) → Always P o → o ≡ Some a → P a
always_is P o a h e = subst (Always P) e h

-- ---- clauses

has_more : (cs ds : List Clause) → HasClause ds → HasClause (cs ++ ds)
has_more [] ds h = h
has_more (c ∷ cs) ds h = tt

has_last : (cs : List Clause) (c : Clause) → HasClause (cs ++ c ∷ [])
has_last [] c = tt
has_last (d ∷ cs) c = tt

no_declaration : (p : Problem) (cs : List Clause) (s : Stage) → HasClause cs → declaration p cs s ≡ None
no_declaration p [] s h = absurd h
no_declaration p (c ∷ cs) s h = refl

declaration_over : (cs : List Clause) (p : Problem) (s : Stage) → HasClause p.clauses
    → declaration (with_before cs p) (cs ++ p.clauses) s ≡ over (resumed cs) (declaration p p.clauses s)
declaration_over cs p s h =
    no_declaration (with_before cs p) (cs ++ p.clauses) s (has_more cs p.clauses h) ∙ sym (ap (over (resumed cs)) (no_declaration p p.clauses s h))

-- ---- the parts of a step

abbrev query_begins : Stage
query_begins = Body true [] (begun Head)

abbrev constants_begin : Stage
constants_begin = Constants (constants.Name [])

abbrev function_begins : Stage
function_begins = Function function.Name

abbrev query_goes : Problem → Kind → Option Progress
query_goes p k = if same k kinds.Query then Some (at p query_begins) else None

abbrev function_or_item : Problem → Kind → Option Progress
function_or_item p k = if same k kinds.Fun then declaration p p.clauses function_begins else item_goes p k

abbrev begins : Problem → List Var → Option Progress
begins p vs = Some (at p (Body false vs (begun Head)))

abbrev goes_on : Problem → VariablesState → Option Progress
goes_on p v = Some (at p (Variables v))

abbrev is_read : Problem → Bool → List Var → List Atom × List Atom → Option Progress
is_read p q vs r = Some (with_item p (clause_of q vs r.0 r.1))

abbrev is_inside : Problem → Bool → List Var → BodyState → Option Progress
is_inside p q vs b = Some (at p (Body q vs b))

-- ---- the step with clauses before

item_over : (cs : List Clause) (p : Problem) (k : Kind) → item_goes (with_before cs p) k ≡ over (resumed cs) (item_goes p k)
unfolding item_goes
item_over cs p k =
    over_choice (resumed cs) (same k kinds.Clause) (Some (at p ClauseWord)) (query_goes p k) _ _ refl
    (over_choice (resumed cs) (same k kinds.Query) (Some (at p query_begins)) None _ _ refl refl)

between_over : (cs : List Clause) (p : Problem) (k : Kind) → HasClause p.clauses → between (with_before cs p) k ≡ over (resumed cs) (between p k)
unfolding between
between_over cs p k h =
    over_choice (resumed cs) (same k kinds.Const) (declaration p p.clauses constants_begin) (function_or_item p k) _ _ (declaration_over cs p constants_begin h)
    (over_choice (resumed cs) (same k kinds.Fun) (declaration p p.clauses function_begins) (item_goes p k) _ _ (declaration_over cs p function_begins h) (item_over cs p k))

whole_over : (cs : List Clause) (p : Problem) (t : Token) → HasClause p.clauses → at_whole (with_before cs p) t ≡ over (resumed cs) (at_whole p t)
unfolding at_whole
whole_over cs p (word k) h = between_over cs p k h
whole_over cs p (name x) h = refl
whole_over cs p (numeral n) h = refl

clause_over : (cs : List Clause) (p : Problem) (t : Token) → at_clause (with_before cs p) t ≡ over (resumed cs) (at_clause p t)
unfolding at_clause
clause_over cs p t = over_choice (resumed cs) (ends_with kinds.OpenSquare t) (Some (at p (Variables First))) None _ _ refl refl

variables_over : (cs : List Clause) (p : Problem) (v : VariablesState) (t : Token) → variables_stage (with_before cs p) v t ≡ over (resumed cs) (variables_stage p v t)
unfolding variables_stage
variables_over cs p v t =
    over_choice (resumed cs) (ends_with kinds.CloseSquare t) (variables_end v and_then begins p) (variables_step v t and_then goes_on p) _ _
    (over_then (resumed cs) (variables_end v) (begins p) (begins (with_before cs p)) (λ a. refl))
    (over_then (resumed cs) (variables_step v t) (goes_on p) (goes_on (with_before cs p)) (λ a. refl))

body_over : (cs : List Clause) (p : Problem) (q : Bool) (vs : List Var) (b : BodyState) (t : Token) → body_stage (with_before cs p) q vs b t ≡ over (resumed cs) (body_stage p q vs b t)
unfolding body_stage
body_over cs p q vs b t =
    over_choice (resumed cs) (ends_with kinds.Semicolon t) (body_end b and_then is_read p q vs) (body_step b t and_then is_inside p q vs) _ _
    (over_then (resumed cs) (body_end b) (is_read p q vs) (is_read (with_before cs p) q vs)
    (λ a. ap (λ ds. Some (at (problem_of p.profile p.decls ds) Whole)) (append_assoc cs p.clauses (clause_of q vs a.0 a.1 ∷ []))))
    (over_then (resumed cs) (body_step b t) (is_inside p q vs) (is_inside (with_before cs p) q vs) (λ a. refl))

pub step_over : (cs : List Clause) (p : Problem) (s : Stage) (t : Token) → HasClause p.clauses → IsItem s → stage_step (with_before cs p) s t ≡ over (resumed cs) (stage_step p s t)
step_over cs p Whole t h i = whole_over cs p t h
step_over cs p ClauseWord t h i = clause_over cs p t
step_over cs p (Variables v) t h i = variables_over cs p v t
step_over cs p (Body q vs b) t h i = body_over cs p q vs b t
step_over cs p Start t h i = absurd i
step_over cs p Profile t h i = absurd i
step_over cs p Numbered t h i = absurd i
step_over cs p (Constants c) t h i = absurd i
step_over cs p (Function f) t h i = absurd i

-- ---- what stays where a clause is held

pub record IsKept (p : Problem) (n : Progress) : Type 0 where
  pub held : IsHeld n
  pub profile : n.made.profile ≡ p.profile
  pub decls : n.made.decls ≡ p.decls

kept_at : (p : Problem) (s : Stage) → HasClause p.clauses → IsItem s → IsKept p (at p s)
kept_at p s h i = record { held = (h, i); profile = refl; decls = refl }

declaration_keeps : (p : Problem) (cs : List Clause) (s : Stage) → HasClause cs → Always (IsKept p) (declaration p cs s)
declaration_keeps p [] s h = absurd h
declaration_keeps p (c ∷ cs) s h = tt

item_keeps : (p : Problem) (k : Kind) → HasClause p.clauses → Always (IsKept p) (item_goes p k)
unfolding item_goes
item_keeps p k h =
    always_choice (IsKept p) (same k kinds.Clause) (Some (at p ClauseWord)) (query_goes p k) (kept_at p ClauseWord h tt)
    (always_choice (IsKept p) (same k kinds.Query) (Some (at p query_begins)) None (kept_at p query_begins h tt) tt)

between_keeps : (p : Problem) (k : Kind) → HasClause p.clauses → Always (IsKept p) (between p k)
unfolding between
between_keeps p k h =
    always_choice (IsKept p) (same k kinds.Const) (declaration p p.clauses constants_begin) (function_or_item p k) (declaration_keeps p p.clauses constants_begin h)
    (always_choice (IsKept p) (same k kinds.Fun) (declaration p p.clauses function_begins) (item_goes p k) (declaration_keeps p p.clauses function_begins h) (item_keeps p k h))

whole_keeps : (p : Problem) (t : Token) → HasClause p.clauses → Always (IsKept p) (at_whole p t)
unfolding at_whole
whole_keeps p (word k) h = between_keeps p k h
whole_keeps p (name x) h = tt
whole_keeps p (numeral n) h = tt

clause_keeps : (p : Problem) (t : Token) → HasClause p.clauses → Always (IsKept p) (at_clause p t)
unfolding at_clause
clause_keeps p t h = always_choice (IsKept p) (ends_with kinds.OpenSquare t) (Some (at p (Variables First))) None (kept_at p (Variables First) h tt) tt

variables_keep : (p : Problem) (v : VariablesState) (t : Token) → HasClause p.clauses → Always (IsKept p) (variables_stage p v t)
unfolding variables_stage
variables_keep p v t h =
    always_choice (IsKept p) (ends_with kinds.CloseSquare t) (variables_end v and_then begins p) (variables_step v t and_then goes_on p)
    (always_then (IsKept p) (variables_end v) (begins p) (λ a. kept_at p (Body false a (begun Head)) h tt))
    (always_then (IsKept p) (variables_step v t) (goes_on p) (λ a. kept_at p (Variables a) h tt))

body_keeps : (p : Problem) (q : Bool) (vs : List Var) (b : BodyState) (t : Token) → HasClause p.clauses → Always (IsKept p) (body_stage p q vs b t)
unfolding body_stage
body_keeps p q vs b t h =
    always_choice (IsKept p) (ends_with kinds.Semicolon t) (body_end b and_then is_read p q vs) (body_step b t and_then is_inside p q vs)
    (always_then (IsKept p) (body_end b) (is_read p q vs) (λ a. record { held = (has_last p.clauses (clause_of q vs a.0 a.1), tt); profile = refl; decls = refl }))
    (always_then (IsKept p) (body_step b t) (is_inside p q vs) (λ a. kept_at p (Body q vs a) h tt))

step_keeps : (p : Problem) (s : Stage) (t : Token) → HasClause p.clauses → IsItem s → Always (IsKept p) (stage_step p s t)
step_keeps p Whole t h i = whole_keeps p t h
step_keeps p ClauseWord t h i = clause_keeps p t h
step_keeps p (Variables v) t h i = variables_keep p v t h
step_keeps p (Body q vs b) t h i = body_keeps p q vs b t h
step_keeps p Start t h i = absurd i
step_keeps p Profile t h i = absurd i
step_keeps p Numbered t h i = absurd i
step_keeps p (Constants c) t h i = absurd i
step_keeps p (Function f) t h i = absurd i

pub kept : (s n : Progress) (t : Token) → IsHeld s → top_step s t ≡ Some n → IsKept s.made n
kept s n t h e = always_is (IsKept s.made) (top_step s t) n (step_keeps s.made s.stage t h.0 h.1) e
