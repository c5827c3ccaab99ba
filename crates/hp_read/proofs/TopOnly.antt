-- What is spelled as a problem is read as that, and from each state some tokens lead to its end.
use Rattle.std.proofs.Common.{◌≡◌, ℕ, Bool, true, false, List, [], ◌∷◌, ◌++◌, Option, Some, None, refl, sym, ap, ◌∙◌, append_assoc, append-nil}
use Rattle.std.specs.Prelude.{if◌then◌else◌}
use Rattle.hp_tree.specs.declared.problem.Atom.{Atom}
use Rattle.hp_tree.specs.declared.problem.Clause.{Clause}
use Rattle.hp_tree.specs.declared.problem.Decl.{Decl}
use Rattle.hp_tree.specs.declared.problem.Problem.{Problem}
use Rattle.hp_tree.specs.declared.problem.Var.{Var}
use Rattle.hp_text.specs.declared.token.Kind.{Kind}
use Rattle.hp_text.specs.declared.token.Kind.TheVariants as kinds
use Rattle.hp_body.specs.declared.body.Body.{Body as BodyState}
use Rattle.hp_body.specs.declared.body.Body.TheVariants.{Reading, Closed}
use Rattle.hp_body.specs.declared.body.Place.TheVariants.{First}
use Rattle.hp_read.specs.declared.lines.Constants.{Constants as ConstantsState}
use Rattle.hp_read.specs.declared.lines.Constants.TheVariants as c
use Rattle.hp_read.specs.declared.lines.Function.{Function as FunctionState}
use Rattle.hp_read.specs.declared.lines.Function.TheVariants as f
use Rattle.hp_read.specs.declared.lines.Variables.{Variables as VariablesState}
use Rattle.hp_read.specs.declared.lines.Variables.TheVariants as v
use Rattle.hp_read.specs.declared.stage.Stage.{Stage}
use Rattle.hp_read.specs.declared.stage.Stage.TheVariants.{Start, Profile, Numbered, Whole, Constants, Function, Clause as ClauseWord, Variables, Body}
use Rattle.hp_read.specs.declared.stage.Progress.{Progress}
use Rattle.hp_grammar.specs.declared.symbol.Symbol.{Symbol as Token}
use Rattle.hp_grammar.specs.declared.symbol.Symbol.TheVariants.{Word as word, Numeral as numeral}
use Rattle.hp_grammar.specs.Token.{same, AreTokens}
use Rattle.hp_grammar.specs.Bodies.{relation}
use Rattle.hp_grammar.specs.Problems.{SpellsDeclaration, constants, function, clause_of, SpellsItem, clause, query, SpellsProfile, missing, given, SpellsDeclarations, SpellsItems, problem_of, SpellsProblem, problem}
use Rattle.hp_grammar.specs.Problems as grammar
use Rattle.hp_grammar.specs.Runs.{◌and_then◌, runs}
use Rattle.hp_body.specs.Machine.{at_word, number_goes, factor_goes, end_goes}
use Rattle.hp_body.specs.BodyMachine.{begun, body_step, body_end, body_word, head_goes, other_goes}
use Rattle.hp_read.specs.Stages.{sort_of, constants_step, constants_end, function_step, function_end, variables_step, variables_end}
use Rattle.hp_read.specs.Top.{at, started, with_declarations, with_item, ends_with, between, item_goes, at_start, at_profile, at_whole, at_numbered, at_clause, constants_stage, function_stage, variables_stage, body_stage, stage_step, top_step, stage_end, top_end}
use Rattle.hp_grammar.proofs.Machines.{bound, runs_on, result_of, are_both, Reads}
use Rattle.hp_body.proofs.BodyFinish.{bodies_read}
use Rattle.hp_read.proofs.DeclaredOnly.{constants_read, function_read, variables_read}
use Rattle.hp_read.proofs.Layers.{goes_inside, lift}
use Rattle.hp_read.proofs.TopFound.{problem_found}

-- the words that end a layer are none that it goes on with
constants_close : (a : ConstantsState) → constants_step a (word kinds.Semicolon) ≡ None
unfolding same sort_of
constants_close (c.Name xs) = refl
constants_close (c.Named xs) = refl
constants_close (c.Colon xs) = refl
constants_close (c.Sorted xs s) = refl

function_closes : (a : FunctionState) → function_step a (word kinds.Semicolon) ≡ None
unfolding same sort_of
function_closes f.Name = refl
function_closes (f.Named x) = refl
function_closes (f.Argument x ss) = refl
function_closes (f.Sorted x ss) = refl
function_closes (f.Closed x ss) = refl
function_closes (f.Colon x ss) = refl
function_closes (f.Returning x ss s) = refl
function_closes (f.Level x ss s) = refl
function_closes (f.Leveled x ss s n) = refl

variables_close : (a : VariablesState) → variables_step a (word kinds.CloseSquare) ≡ None
unfolding same sort_of
variables_close v.First = refl
variables_close (v.Name vs) = refl
variables_close (v.Named vs x) = refl
variables_close (v.Colon vs x) = refl
variables_close (v.Sorted vs) = refl

body_closes : (b : BodyState) → body_step b (word kinds.Semicolon) ≡ None
unfolding same relation body_word head_goes other_goes at_word number_goes factor_goes end_goes
body_closes (Closed g) = refl
body_closes (Reading p d m fs) = refl

-- a layer inside the machine of the text: what it goes on with, the text goes on with, and its last word ends it
pub record Layer {S P : Type 0} (next : S → Token → Option S) (accept : S → Option P) (into : S → Progress) (close : Kind) (whole : P → Progress) : Type 0 where
  pub goes : (s n : S) (t : Token) → next s t ≡ Some n → top_step (into s) t ≡ Some (into n)
  pub ends : (s : S) (r : P) → accept s ≡ Some r → top_step (into s) (word close) ≡ Some (whole r)

-- behind a text of the layer and its last word
layer_read : {S P : Type 0} (next : S → Token → Option S) (accept : S → Option P) (into : S → Progress) (close : Kind) (whole : P → Progress)
    → Layer next accept into close whole → (u w : List Token) (s : S) (r : P) → result_of next accept s u ≡ Some r
    → runs top_step (into s) (u ++ word close ∷ w) ≡ runs top_step (whole r) w
layer_read next accept into close whole l u w s r e =
    let b = bound (runs next s u) accept r e in
    runs_on top_step u (word close ∷ w) (into s) (into b.0) (lift next top_step into l.goes u s b.0 b.1)
    ∙ ap (λ o. o and_then λ n. runs top_step n w) (l.ends b.0 r b.2)

goes_with : (b : Bool) (x y : Option Progress) (n : Progress) → b ≡ false → y ≡ Some n → (if b then x else y) ≡ Some n
goes_with true x y n g e = absurd (cc)
goes_with false x y n g e = e

constants_layer : (p : Problem) → Layer constants_step constants_end (λ a. at p (Constants a)) kinds.Semicolon (with_declarations p)
unfolding same constants_stage
constants_layer p = record {
  goes = λ s n t e. goes_with (ends_with kinds.Semicolon t) _ _ _ (goes_inside constants_step kinds.Semicolon s n t (constants_close s) e) (ap (λ o. o and_then λ d. Some (at p (Constants d))) e);
  ends = λ s r e. ap (λ o. o and_then λ ds. Some (with_declarations p ds)) e;
}

function_layer : (p : Problem) → Layer function_step function_end (λ a. at p (Function a)) kinds.Semicolon (λ d. with_declarations p (d ∷ []))
unfolding same function_stage
function_layer p = record {
  goes = λ s n t e. goes_with (ends_with kinds.Semicolon t) _ _ _ (goes_inside function_step kinds.Semicolon s n t (function_closes s) e) (ap (λ o. o and_then λ d. Some (at p (Function d))) e);
  ends = λ s r e. ap (λ o. o and_then λ d. Some (with_declarations p (d ∷ []))) e;
}

variables_layer : (p : Problem) → Layer variables_step variables_end (λ a. at p (Variables a)) kinds.CloseSquare (λ vs. at p (Body false vs (begun First)))
unfolding same variables_stage
variables_layer p = record {
  goes = λ s n t e. goes_with (ends_with kinds.CloseSquare t) _ _ _ (goes_inside variables_step kinds.CloseSquare s n t (variables_close s) e) (ap (λ o. o and_then λ d. Some (at p (Variables d))) e);
  ends = λ s r e. ap (λ o. o and_then λ vs. Some (at p (Body false vs (begun First)))) e;
}

abbrev pub item_of : Problem → Bool → List Var → List Atom × List Atom → Progress
item_of p q vs r = with_item p (clause_of q vs r.0 r.1)

body_layer : (p : Problem) (q : Bool) (vs : List Var) → Layer body_step body_end (λ b. at p (Body q vs b)) kinds.Semicolon (item_of p q vs)
unfolding same body_stage
body_layer p q vs = record {
  goes = λ s n t e. goes_with (ends_with kinds.Semicolon t) _ _ _ (goes_inside body_step kinds.Semicolon s n t (body_closes s) e) (ap (λ o. o and_then λ d. Some (at p (Body q vs d))) e);
  ends = λ s r e. ap (λ o. o and_then λ k. Some (item_of p q vs k)) e;
}

-- where a declaration or an item may begin
pub record Opens (s : Stage) : Type 0 where
  pub goes : (p : Problem) (k : Kind) → same k kinds.Profile ≡ false → stage_step p s (word k) ≡ between p k
  pub ends : (p : Problem) → stage_end p s ≡ Some p

whole_opens : Opens Whole
unfolding at_whole
whole_opens = record { goes = λ p k e. refl; ends = λ p. refl }

otherwise : (b : Bool) (x y : Option Progress) → b ≡ false → (if b then x else y) ≡ y
otherwise true x y e = absurd (cc)
otherwise false x y e = refl

start_opens : Opens Start
unfolding at_start
start_opens = record { goes = λ p k e. otherwise (same k kinds.Profile) (Some (at p Profile)) (between p k) e; ends = λ p. refl }

-- the first word of a declaration or an item, and what follows
opened : (s : Stage) (p : Problem) (k : Kind) (u : List Token) → Opens s → same k kinds.Profile ≡ false
    → runs top_step (at p s) (word k ∷ u) ≡ (between p k and_then λ n. runs top_step n u)
opened s p k u o e = ap (λ z. z and_then λ n. runs top_step n u) (o.goes p k e)

declaration_goes : (s : Stage) (n : ℕ) (ds es : List Decl) (u : List Token) → Opens s → SpellsDeclaration u es
    → runs top_step (at (problem_of n ds []) s) u ≡ Some (at (problem_of n (ds ++ es) []) Whole)
unfolding same between item_goes
declaration_goes s n ds es u o (constants w fs h) =
    opened s (problem_of n ds []) kinds.Const (w ++ word kinds.Semicolon ∷ []) o refl
    ∙ layer_read constants_step constants_end _ kinds.Semicolon _ (constants_layer (problem_of n ds [])) w [] (c.Name []) fs (constants_read.only w fs h)
declaration_goes s n ds es u o (function w d h) =
    opened s (problem_of n ds []) kinds.Fun (w ++ word kinds.Semicolon ∷ []) o refl
    ∙ layer_read function_step function_end _ kinds.Semicolon _ (function_layer (problem_of n ds [])) w [] f.Name d (function_read.only w d h)

item_goes_on : (s : Stage) (p : Problem) (d : Clause) (u : List Token) → Opens s → SpellsItem u d → runs top_step (at p s) u ≡ Some (with_item p d)
unfolding same between item_goes at_clause
item_goes_on s p d u o (clause w z vs g h k b) =
    let rest : List Token = z ++ word kinds.Semicolon ∷ [] in
    opened s p kinds.Clause (word kinds.OpenSquare ∷ w ++ (word kinds.CloseSquare ∷ rest)) o refl
    ∙ (layer_read variables_step variables_end _ kinds.CloseSquare _ (variables_layer p) w rest v.First vs (variables_read.only w vs k)
    ∙ layer_read body_step body_end _ kinds.Semicolon _ (body_layer p false vs) z [] (begun First) (g, h) (bodies_read.only z (g, h) b))
item_goes_on s p d u o (query w g h b) =
    opened s p kinds.Query (w ++ word kinds.Semicolon ∷ []) o refl
    ∙ layer_read body_step body_end _ kinds.Semicolon _ (body_layer p true []) w [] (begun First) (g, h) (bodies_read.only w (g, h) b)

-- a stage at which the text may end, behind these tokens
pub record Reaches (from : Progress) (u : List Token) (p : Problem) : Type 0 where
  pub stage : Stage
  pub opens : Opens stage
  pub goes : runs top_step from u ≡ Some (at p stage)

profile_reached : (u : List Token) (n : ℕ) → SpellsProfile u n → Reaches started u (problem_of n [] [])
unfolding same at_start at_profile at_numbered
profile_reached u n missing = record { stage = Start; opens = start_opens; goes = refl }
profile_reached u n given = record { stage = Whole; opens = whole_opens; goes = refl }

declarations_reached : (from : Progress) (a u : List Token) (n : ℕ) (ds : List Decl) → Reaches from a (problem_of n [] []) → SpellsDeclarations u ds
    → Reaches from (a ++ u) (problem_of n ds [])
declarations_reached from a u n ds r grammar.none = record { stage = r.stage; opens = r.opens; goes = rw append-nil r.goes }
declarations_reached from a u n ds r (grammar.more w z es ks h g) =
    let l = declarations_reached from a w n es r h in
    record {
      stage = Whole;
      opens = whole_opens;
      goes = ap (runs top_step from) (sym (append_assoc a w z))
          ∙ (runs_on top_step (a ++ w) z from (at (problem_of n es []) l.stage) l.goes ∙ declaration_goes l.stage n es ks z l.opens g);
    }

items_reached : (from : Progress) (a u : List Token) (n : ℕ) (ds : List Decl) (cs : List Clause) → Reaches from a (problem_of n ds []) → SpellsItems u cs
    → Reaches from (a ++ u) (problem_of n ds cs)
items_reached from a u n ds cs r grammar.none = record { stage = r.stage; opens = r.opens; goes = rw append-nil r.goes }
items_reached from a u n ds cs r (grammar.more w z es d h g) =
    let l = items_reached from a w n ds es r h in
    record {
      stage = Whole;
      opens = whole_opens;
      goes = ap (runs top_step from) (sym (append_assoc a w z))
          ∙ (runs_on top_step (a ++ w) z from (at (problem_of n ds es) l.stage) l.goes ∙ item_goes_on l.stage (problem_of n ds es) d z l.opens g);
    }

problem_only : (u : List Token) (p : Problem) → SpellsProblem u p → result_of top_step top_end started u ≡ Some p
problem_only u p (problem a b w n ds cs h g i) =
    let l = items_reached started (a ++ b) w n ds cs (declarations_reached started a b n ds (profile_reached a n h) g) i in
    ap (λ z. result_of top_step top_end started z) (sym (append_assoc a b w))
    ∙ (ap (λ o. o and_then top_end) l.goes ∙ l.opens.ends (problem_of n ds cs))

-- tokens that end the text
pub record Ends (s : Progress) : Type 0 where
  pub tokens : List Token
  pub problem : Problem
  pub real : AreTokens tokens
  pub result : result_of top_step top_end s tokens ≡ Some problem

ends_behind : {S P : Type 0} (next : S → Token → Option S) (accept : S → Option P) (into : S → Progress) (close : Kind) (whole : P → Progress)
    → Layer next accept into close whole → AreTokens (word close ∷ []) → (s : S) (u : List Token) (r : P) → AreTokens u → result_of next accept s u ≡ Some r
    → Ends (whole r) → Ends (into s)
ends_behind next accept into close whole l k s u r h e n = record {
  tokens = u ++ word close ∷ n.tokens;
  problem = n.problem;
  real = are_both u (word close ∷ n.tokens) h (k.0, n.real);
  result = ap (λ o. o and_then top_end) (layer_read next accept into close whole l u n.tokens s r e) ∙ n.result;
}

whole_ends : (p : Problem) → Ends (at p Whole)
whole_ends p = record { tokens = []; problem = p; real = tt; result = refl }

body_ends : (p : Problem) (q : Bool) (vs : List Var) (b : BodyState) → Ends (at p (Body q vs b))
body_ends p q vs b = let k = bodies_read.ends b in
    ends_behind body_step body_end (λ a. at p (Body q vs a)) kinds.Semicolon (item_of p q vs) (body_layer p q vs) (refl, tt) b k.0 k.1 k.2 k.3 (whole_ends _)

variables_ending : (p : Problem) (a : VariablesState) → Ends (at p (Variables a))
variables_ending p a = let k = variables_read.ends a in
    ends_behind variables_step variables_end (λ z. at p (Variables z)) kinds.CloseSquare _ (variables_layer p) (refl, tt) a k.0 k.1 k.2 k.3 (body_ends p false k.1 (begun First))

one_before : (s n : Progress) (t : Token) → AreTokens (t ∷ []) → top_step s t ≡ Some n → Ends n → Ends s
one_before s n t h e k = record {
  tokens = t ∷ k.tokens;
  problem = k.problem;
  real = (h.0, k.real);
  result = ap (λ o. (o and_then λ m. runs top_step m k.tokens) and_then top_end) e ∙ k.result;
}

stage_ends : (p : Problem) (s : Stage) → Ends (at p s)
unfolding same at_profile at_numbered at_clause
stage_ends p Start = record { tokens = []; problem = p; real = tt; result = refl }
stage_ends p Profile = record { tokens = numeral 1 ∷ word kinds.Semicolon ∷ []; problem = p; real = (refl, (refl, tt)); result = refl }
stage_ends p Numbered = record { tokens = word kinds.Semicolon ∷ []; problem = p; real = (refl, tt); result = refl }
stage_ends p Whole = whole_ends p
stage_ends p (Constants a) = let k = constants_read.ends a in
    ends_behind constants_step constants_end (λ z. at p (Constants z)) kinds.Semicolon _ (constants_layer p) (refl, tt) a k.0 k.1 k.2 k.3 (whole_ends _)
stage_ends p (Function a) = let k = function_read.ends a in
    ends_behind function_step function_end (λ z. at p (Function z)) kinds.Semicolon _ (function_layer p) (refl, tt) a k.0 k.1 k.2 k.3 (whole_ends _)
stage_ends p ClauseWord = one_before (at p ClauseWord) (at p (Variables v.First)) (word kinds.OpenSquare) (refl, tt) refl (variables_ending p v.First)
stage_ends p (Variables a) = variables_ending p a
stage_ends p (Body q vs b) = body_ends p q vs b

pub problems_read : Reads top_step top_end started SpellsProblem
problems_read = record {
  found = problem_found;
  only = problem_only;
  ends = λ s. let k = stage_ends s.made s.stage in (k.tokens, k.problem, k.real, k.result);
}
