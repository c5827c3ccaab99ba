-- What was read of a whole text is spelled.
use Rattle.std.proofs.Common.{◌≡◌, Bool, true, false, List, [], ◌∷◌, ◌++◌, Option, Some, refl, sym, ap, subst, ◌∙◌, append_assoc, append-nil, inl, inr}
use Rattle.std.proofs.lemmas.Bool.{eqb-true}
use Rattle.std.specs.Prelude.{◌==◌}
use Rattle.hp_tree.specs.declared.problem.Atom.{Atom}
use Rattle.hp_tree.specs.declared.problem.Clause.{Clause}
use Rattle.hp_tree.specs.declared.problem.Decl.{Decl}
use Rattle.hp_tree.specs.declared.problem.Problem.{Problem}
use Rattle.hp_tree.specs.declared.problem.Var.{Var}
use Rattle.hp_text.specs.declared.token.Kind.{Kind}
use Rattle.hp_text.specs.declared.token.Kind.TheVariants as kinds
use Rattle.hp_body.specs.declared.body.Body.{Body as BodyState}
use Rattle.hp_body.specs.declared.body.Place.TheVariants.{First}
use Rattle.hp_read.specs.declared.lines.Constants.{Constants as ConstantsState}
use Rattle.hp_read.specs.declared.lines.Constants.TheVariants as c
use Rattle.hp_read.specs.declared.lines.Function.{Function as FunctionState}
use Rattle.hp_read.specs.declared.lines.Function.TheVariants as f
use Rattle.hp_read.specs.declared.lines.Variables.{Variables as VariablesState}
use Rattle.hp_read.specs.declared.lines.Variables.TheVariants as v
use Rattle.hp_read.specs.declared.stage.Stage.{Stage}
use Rattle.hp_read.specs.declared.stage.Stage.TheVariants.{Start, Profile, Numbered, Whole, Constants, Function, Clause as ClauseWord, Variables, Body}
use Rattle.hp_read.specs.declared.stage.Progress.{Progress}
use Rattle.hp_grammar.specs.declared.symbol.Symbol.{Symbol as Token}
use Rattle.hp_grammar.specs.declared.symbol.Symbol.TheVariants.{Word as word, Name as name, Numeral as numeral}
use Rattle.hp_grammar.specs.Token.{same}
use Rattle.hp_grammar.specs.Bodies.{SpellsBody}
use Rattle.hp_grammar.specs.Declarations.{SpellsConstants, SpellsFunction, SpellsVariables}
use Rattle.hp_grammar.specs.Problems.{SpellsDeclaration, constants, function, clause_of, SpellsItem, clause, query, missing, given, SpellsItems, problem_of, SpellsProblem, problem}
use Rattle.hp_grammar.specs.Problems as grammar
use Rattle.hp_grammar.specs.Runs.{◌and_then◌, runs}
use Rattle.hp_body.specs.BodyMachine.{begun, body_step, body_end}
use Rattle.hp_read.specs.Stages.{constants_step, constants_end, function_step, function_end, variables_step, variables_end}
use Rattle.hp_read.specs.Top.{at, started, with_declarations, with_item, ends_with, declaration, between, item_goes, at_start, at_profile, at_whole, at_numbered, at_clause, constants_stage, function_stage, variables_stage, body_stage, stage_step, top_step, stage_end, top_end}
use Rattle.hp_grammar.proofs.Machines.{bound, runs_on, runs_one, result_of, Reads}
use Rattle.hp_body.proofs.Found.{◌and◌}
use Rattle.hp_body.proofs.BodyFinish.{SpellsPair, bodies_read}
use Rattle.hp_read.proofs.Declared.{kept}
use Rattle.hp_read.proofs.DeclaredOnly.{constants_read, function_read, variables_read}
use Rattle.hp_grammar.proofs.Symbols.{same-is}
use Rattle.hp_read.proofs.Layers.{choice, ends_with-is}

-- one declaration, or one item, more
not_empty : {A : Type 0} (xs : List A) (a : A) → xs ++ a ∷ [] ≡ [] → ⊥
not_empty [] a e = absurd (cc)
not_empty (x ∷ xs) a e = absurd (cc)

no_items : (w : List Token) (cs : List Clause) → SpellsItems w cs → cs ≡ [] → w ≡ []
no_items w cs grammar.none e = refl
no_items w cs (grammar.more x y ds d h g) e = absurd (not_empty ds d e)

pub one_declaration : (u z : List Token) (p : Problem) (ds : List Decl) → SpellsProblem u p → p.clauses ≡ [] → SpellsDeclaration z ds
    → SpellsProblem (u ++ z) (problem_of p.profile (p.decls ++ ds) p.clauses)
one_declaration u z p ds (problem a b w n es cs h g i) e k =
    let none : w ≡ [] = no_items w cs i e in
    let same_tokens : a ++ ((b ++ z) ++ w) ≡ (a ++ (b ++ w)) ++ z = rw none (simp (append_assoc, append-nil)) in
    subst (λ x. SpellsProblem x (problem_of n (es ++ ds) cs)) same_tokens
    (problem a (b ++ z) w n (es ++ ds) cs h (grammar.more b z es ds g k) i)

pub one_item : (u z : List Token) (p : Problem) (d : Clause) → SpellsProblem u p → SpellsItem z d
    → SpellsProblem (u ++ z) (problem_of p.profile p.decls (p.clauses ++ d ∷ []))
one_item u z p d (problem a b w n es cs h g i) k =
    let same_tokens : a ++ (b ++ (w ++ z)) ≡ (a ++ (b ++ w)) ++ z = simp append_assoc in
    subst (λ x. SpellsProblem x (problem_of n es (cs ++ d ∷ []))) same_tokens
    (problem a b (w ++ z) n es (cs ++ d ∷ []) h g (grammar.more w z cs d i k))

pub empty_problem : SpellsProblem [] (problem_of 1 [] [])
empty_problem = problem [] [] [] 1 [] [] missing grammar.none grammar.none

-- behind a problem and some words a machine has come to a state
pub record Inside {S : Type 0} (next : S → Token → Option S) (start : S) (p : Problem) (opening : List Token) (s : S) (u : List Token) : Type 0 where
  pub before : List Token
  pub inner : List Token
  pub made : SpellsProblem before p
  pub goes : runs next start inner ≡ Some s
  pub split : u ≡ (before ++ opening) ++ inner

inside_step : {S : Type 0} (next : S → Token → Option S) (start : S) (p : Problem) (opening : List Token) (s n : S) (u : List Token) (t : Token)
    → Inside next start p opening s u → next s t ≡ Some n → Inside next start p opening n (u and t)
inside_step next start p opening s n u t h e = record {
  before = h.before;
  inner = h.inner and t;
  made = h.made;
  goes = runs_on next h.inner (t ∷ []) start s h.goes ∙ runs_one next s n t e;
  split = ap (λ z. z and t) h.split ∙ append_assoc (h.before ++ opening) h.inner (t ∷ []);
}

inside_starts : {S : Type 0} (next : S → Token → Option S) (start : S) (p : Problem) (opening u : List Token) → SpellsProblem u p
    → Inside next start p opening start (u ++ opening)
inside_starts next start p opening u h = record { before = u; inner = []; made = h; goes = refl; split = sym (append-nil (u ++ opening)) }

-- what a machine that reads a grammar has read, where it may end
inside_ends : {S P : Type 0} (next : S → Token → Option S) (accept : S → Option P) (start : S) (Spells : List Token → P → Type 0) → Reads next accept start Spells
    → (p : Problem) (opening : List Token) (s : S) (u : List Token) (r : P) → (h : Inside next start p opening s u) → accept s ≡ Some r → Spells h.inner r
inside_ends next accept start Spells m p opening s u r h e = m.found h.inner r (ap (λ o. o and_then accept) h.goes ∙ e)

-- what stands before a body
abbrev pub HeadIs : Bool → List Var → List Token → Type 0
HeadIs true vs u = (vs ≡ []) × (u ≡ word kinds.Query ∷ [])
HeadIs false vs u = (w : List Token) × SpellsVariables w vs × (u ≡ word kinds.Clause ∷ word kinds.OpenSquare ∷ w ++ (word kinds.CloseSquare ∷ []))

abbrev pub StageIs : Problem → Stage → List Token → Type 0
StageIs p Start u = (u ≡ []) × (p ≡ problem_of 1 [] [])
StageIs p Profile u = (u ≡ word kinds.Profile ∷ []) × (p ≡ problem_of 1 [] [])
StageIs p Numbered u = (u ≡ word kinds.Profile ∷ numeral 1 ∷ []) × (p ≡ problem_of 1 [] [])
StageIs p Whole u = SpellsProblem u p
StageIs p (Constants a) u = (p.clauses ≡ []) × Inside constants_step (c.Name []) p (word kinds.Const ∷ []) a u
StageIs p (Function a) u = (p.clauses ≡ []) × Inside function_step f.Name p (word kinds.Fun ∷ []) a u
StageIs p ClauseWord u = (w : List Token) × SpellsProblem w p × (u ≡ w and word kinds.Clause)
StageIs p (Variables a) u = Inside variables_step v.First p (word kinds.Clause ∷ word kinds.OpenSquare ∷ []) a u
StageIs p (Body q vs b) u = (w : List Token) × HeadIs q vs w × Inside body_step (begun First) p w b u

abbrev pub ProgressIs : Progress → List Token → Type 0
ProgressIs s u = StageIs s.made s.stage u

declaration_is : (p : Problem) (cs : List Clause) (s : Stage) (n : Progress) (u : List Token) → p.clauses ≡ cs → declaration p cs s ≡ Some n
    → (p.clauses ≡ [] → StageIs p s u) → ProgressIs n u
declaration_is p [] s n u h e k = let z : at p s ≡ n = cc in subst (λ a. ProgressIs a u) z (k h)
declaration_is p (d ∷ ds) s n u h e k = absurd (cc)

item_is : (p : Problem) (k : Kind) (n : Progress) (u : List Token) → SpellsProblem u p → item_goes p k ≡ Some n → ProgressIs n (u and word k)
unfolding item_goes
item_is p k n u h e =
    elim (choice (same k kinds.Clause) _ _ n e) [
      | inl g ↦ let z : at p ClauseWord ≡ n = cc in
          subst (λ a. ProgressIs a (u and word k)) z (u, h, ap (λ l. u and word l) (same-is k _ g.0))
      | inr g ↦ elim (choice (same k kinds.Query) _ _ n g.1) [
        | inl i ↦ let z : at p (Body true [] (begun First)) ≡ n = cc in
            subst (λ a. ProgressIs a (u and word k)) z
            (word k ∷ [], (refl, ap (λ l. word l ∷ []) (same-is k _ i.0)), inside_starts body_step (begun First) p (word k ∷ []) u h)
        | inr i ↦ absurd (cc)
      ]
    ]

between_is : (p : Problem) (k : Kind) (n : Progress) (u : List Token) → SpellsProblem u p → between p k ≡ Some n → ProgressIs n (u and word k)
unfolding between
between_is p k n u h e =
    elim (choice (same k kinds.Const) _ _ n e) [
      | inl g ↦ declaration_is p p.clauses (Constants (c.Name [])) n (u and word k) refl g.1
          (λ none. (
            none,
            subst (λ l. Inside constants_step (c.Name []) p (word kinds.Const ∷ []) (c.Name []) (u and word l)) (sym (same-is k _ g.0))
                (inside_starts constants_step (c.Name []) p (word kinds.Const ∷ []) u h),
          ))
      | inr g ↦ elim (choice (same k kinds.Fun) _ _ n g.1) [
        | inl i ↦ declaration_is p p.clauses (Function f.Name) n (u and word k) refl i.1
            (λ none. (
              none,
              subst (λ l. Inside function_step f.Name p (word kinds.Fun ∷ []) f.Name (u and word l)) (sym (same-is k _ i.0))
                  (inside_starts function_step f.Name p (word kinds.Fun ∷ []) u h),
            ))
        | inr i ↦ item_is p k n u h i.1
      ]
    ]

start_is : (p : Problem) (t : Token) (n : Progress) (u : List Token) → StageIs p Start u → at_start p t ≡ Some n → ProgressIs n (u and t)
unfolding at_start
start_is p (word k) n u h e =
    elim (choice (same k kinds.Profile) _ _ n e) [
      | inl g ↦ let z : at p Profile ≡ n = cc in
          subst (λ a. ProgressIs a (u and word k)) z (rw (h.0, same-is k _ g.0) refl, h.1)
      | inr g ↦ between_is p k n u (rw (h.0, h.1) empty_problem) g.1
    ]
start_is p (name x) n u h e = absurd (cc)
start_is p (numeral m) n u h e = absurd (cc)

profile_is : (p : Problem) (t : Token) (n : Progress) (u : List Token) → StageIs p Profile u → at_profile p t ≡ Some n → ProgressIs n (u and t)
unfolding at_profile
profile_is p (word k) n u h e = absurd (cc)
profile_is p (name x) n u h e = absurd (cc)
profile_is p (numeral m) n u h e =
    elim (choice (m == 1) _ _ n e) [
      | inl g ↦ let z : at p Numbered ≡ n = cc in
          let one : m ≡ 1 = eqb-true m 1 g.0 in
          subst (λ a. ProgressIs a (u and numeral m)) z (rw (h.0, one) refl, h.1)
      | inr g ↦ absurd (cc)
    ]

numbered_is : (p : Problem) (t : Token) (n : Progress) (u : List Token) → StageIs p Numbered u → stage_step p Numbered t ≡ Some n → ProgressIs n (u and t)
unfolding at_numbered
numbered_is p t n u h e =
    elim (choice (ends_with kinds.Semicolon t) _ _ n e) [
      | inl g ↦ let z : at p Whole ≡ n = cc in
          subst (λ a. ProgressIs a (u and t)) z
          (rw (h.0, h.1, ends_with-is _ t g.0) (problem (word kinds.Profile ∷ numeral 1 ∷ word kinds.Semicolon ∷ []) [] [] 1 [] [] given grammar.none grammar.none))
      | inr g ↦ absurd (cc)
    ]

whole_is : (p : Problem) (t : Token) (n : Progress) (u : List Token) → SpellsProblem u p → at_whole p t ≡ Some n → ProgressIs n (u and t)
unfolding at_whole
whole_is p (word k) n u h e = between_is p k n u h e
whole_is p (name x) n u h e = absurd (cc)
whole_is p (numeral m) n u h e = absurd (cc)

constants_are : (p : Problem) (a : ConstantsState) (t : Token) (n : Progress) (u : List Token) → StageIs p (Constants a) u → stage_step p (Constants a) t ≡ Some n → ProgressIs n (u and t)
unfolding constants_stage
constants_are p a t n u h e =
    elim (choice (ends_with kinds.Semicolon t) _ _ n e) [
      | inl g ↦ let b = bound (constants_end a) (λ ds. Some (with_declarations p ds)) n g.1 in
          let z : with_declarations p b.0 ≡ n = cc (b.2) in
          let k = h.1 in
          subst (λ x. ProgressIs x (u and t)) z
          (rw (k.split, ends_with-is _ t g.0) (simp append_assoc
          (one_declaration k.before _ p b.0 k.made h.0
          (constants k.inner b.0 (inside_ends constants_step constants_end (c.Name []) SpellsConstants constants_read p _ a u b.0 k b.1)))))
      | inr g ↦ let b = bound (constants_step a t) (λ d. Some (at p (Constants d))) n g.1 in
          let z : at p (Constants b.0) ≡ n = cc (b.2) in
          subst (λ x. ProgressIs x (u and t)) z (h.0, inside_step constants_step _ p _ a b.0 u t h.1 b.1)
    ]

function_is : (p : Problem) (a : FunctionState) (t : Token) (n : Progress) (u : List Token) → StageIs p (Function a) u → stage_step p (Function a) t ≡ Some n → ProgressIs n (u and t)
unfolding function_stage
function_is p a t n u h e =
    elim (choice (ends_with kinds.Semicolon t) _ _ n e) [
      | inl g ↦ let b = bound (function_end a) (λ d. Some (with_declarations p (d ∷ []))) n g.1 in
          let z : with_declarations p (b.0 ∷ []) ≡ n = cc (b.2) in
          let k = h.1 in
          subst (λ x. ProgressIs x (u and t)) z
          (rw (k.split, ends_with-is _ t g.0) (simp append_assoc
          (one_declaration k.before _ p (b.0 ∷ []) k.made h.0
          (function k.inner b.0 (inside_ends function_step function_end f.Name SpellsFunction function_read p _ a u b.0 k b.1)))))
      | inr g ↦ let b = bound (function_step a t) (λ d. Some (at p (Function d))) n g.1 in
          let z : at p (Function b.0) ≡ n = cc (b.2) in
          subst (λ x. ProgressIs x (u and t)) z (h.0, inside_step function_step _ p _ a b.0 u t h.1 b.1)
    ]

clause_is : (p : Problem) (t : Token) (n : Progress) (u : List Token) → StageIs p ClauseWord u → stage_step p ClauseWord t ≡ Some n → ProgressIs n (u and t)
unfolding at_clause
clause_is p t n u h e =
    elim (choice (ends_with kinds.OpenSquare t) _ _ n e) [
      | inl g ↦ let z : at p (Variables v.First) ≡ n = cc in
          subst (λ a. ProgressIs a (u and t)) z
          (rw (h.2, ends_with-is _ t g.0, append_assoc) (inside_starts variables_step v.First p (word kinds.Clause ∷ word kinds.OpenSquare ∷ []) h.0 h.1))
      | inr g ↦ absurd (cc)
    ]

variables_are : (p : Problem) (a : VariablesState) (t : Token) (n : Progress) (u : List Token) → StageIs p (Variables a) u → stage_step p (Variables a) t ≡ Some n → ProgressIs n (u and t)
unfolding variables_stage
variables_are p a t n u h e =
    elim (choice (ends_with kinds.CloseSquare t) _ _ n e) [
      | inl g ↦ let b = bound (variables_end a) (λ vs. Some (at p (Body false vs (begun First)))) n g.1 in
          let z : at p (Body false b.0 (begun First)) ≡ n = cc (b.2) in
          let opening : List Token = word kinds.Clause ∷ word kinds.OpenSquare ∷ h.inner ++ (word kinds.CloseSquare ∷ []) in
          let tokens : h.before ++ opening ≡ u and t = rw (h.split, ends_with-is _ t g.0) (simp append_assoc) in
          subst (λ x. ProgressIs x (u and t)) z (
            opening,
            (h.inner, inside_ends variables_step variables_end v.First SpellsVariables variables_read p _ a u b.0 h b.1, refl),
            subst (λ x. Inside body_step (begun First) p opening (begun First) x) tokens (inside_starts body_step (begun First) p opening h.before h.made),
          )
      | inr g ↦ let b = bound (variables_step a t) (λ w. Some (at p (Variables w))) n g.1 in
          let z : at p (Variables b.0) ≡ n = cc (b.2) in
          subst (λ x. ProgressIs x (u and t)) z (inside_step variables_step _ p _ a b.0 u t h b.1)
    ]

-- a body, behind what stands before it, is an item
whole_item : (q : Bool) (vs : List Var) (w u : List Token) (g h : List Atom) → HeadIs q vs w → SpellsBody u g h
    → SpellsItem (w ++ (u ++ word kinds.Semicolon ∷ [])) (clause_of q vs g h)
whole_item true vs w u g h k b = rw (k.0, k.1) (query u g h b)
whole_item false vs w u g h k b = rw k.2 (simp append_assoc (clause k.0 u vs g h k.1 b))

body_stage_is : (p : Problem) (q : Bool) (vs : List Var) (a : BodyState) (t : Token) (n : Progress) (u : List Token) → StageIs p (Body q vs a) u
    → stage_step p (Body q vs a) t ≡ Some n → ProgressIs n (u and t)
unfolding body_stage
body_stage_is p q vs a t n u h e =
    elim (choice (ends_with kinds.Semicolon t) _ _ n e) [
      | inl g ↦ let b = bound (body_end a) (λ r. Some (with_item p (clause_of q vs r.0 r.1))) n g.1 in
          let z : with_item p (clause_of q vs b.0.0 b.0.1) ≡ n = cc (b.2) in
          let k = h.2 in
          subst (λ x. ProgressIs x (u and t)) z
          (rw (k.split, ends_with-is _ t g.0) (simp append_assoc
          (one_item k.before _ p _ k.made
          (whole_item q vs h.0 k.inner b.0.0 b.0.1 h.1 (inside_ends body_step body_end (begun First) SpellsPair bodies_read p _ a u b.0 k b.1)))))
      | inr g ↦ let b = bound (body_step a t) (λ d. Some (at p (Body q vs d))) n g.1 in
          let z : at p (Body q vs b.0) ≡ n = cc (b.2) in
          subst (λ x. ProgressIs x (u and t)) z (h.0, h.1, inside_step body_step _ p _ a b.0 u t h.2 b.1)
    ]

stage_is : (p : Problem) (s : Stage) (t : Token) (n : Progress) (u : List Token) → StageIs p s u → stage_step p s t ≡ Some n → ProgressIs n (u and t)
stage_is p Start t n u h e = start_is p t n u h e
stage_is p Profile t n u h e = profile_is p t n u h e
stage_is p Numbered t n u h e = numbered_is p t n u h e
stage_is p Whole t n u h e = whole_is p t n u h e
stage_is p (Constants a) t n u h e = constants_are p a t n u h e
stage_is p (Function a) t n u h e = function_is p a t n u h e
stage_is p ClauseWord t n u h e = clause_is p t n u h e
stage_is p (Variables a) t n u h e = variables_are p a t n u h e
stage_is p (Body q vs a) t n u h e = body_stage_is p q vs a t n u h e

end_is : (p r : Problem) (s : Stage) (u : List Token) → StageIs p s u → stage_end p s ≡ Some r → SpellsProblem u r
end_is p r Start u h e = let z : p ≡ r = cc in subst (λ a. SpellsProblem u a) z (rw (h.0, h.1) empty_problem)
end_is p r Whole u h e = let z : p ≡ r = cc in subst (λ a. SpellsProblem u a) z h
end_is p r s u h e = absurd (cc)

pub problem_found : (u : List Token) (r : Problem) → result_of top_step top_end started u ≡ Some r → SpellsProblem u r
problem_found u r e =
    let b = bound (runs top_step started u) top_end r e in
    end_is b.0.made r b.0.stage u (kept top_step ProgressIs (λ s n t w h g. stage_is s.made s.stage t n w h g) u started b.0 [] (refl, refl) b.1) b.2
