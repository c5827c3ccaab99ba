-- The machines of declarations and of lists of variables read their grammars.
use Rattle.std.proofs.Common.{◌≡◌, ℕ, true, List, [], ◌∷◌, ◌++◌, Option, Some, refl, sym, ap, subst, append_assoc, append-nil, inl, inr}
use Rattle.hp_tree.specs.declared.problem.Decl.{Decl}
use Rattle.hp_tree.specs.declared.problem.Decl.TheVariants.{Fun}
use Rattle.hp_tree.specs.declared.problem.Sort.{Sort}
use Rattle.hp_tree.specs.declared.problem.Sort.TheVariants as sorts
use Rattle.hp_tree.specs.declared.problem.Var.{Var}
use Rattle.hp_text.specs.declared.token.Kind.{Kind}
use Rattle.hp_text.specs.declared.token.Kind.TheVariants as kinds
use Rattle.hp_read.specs.declared.lines.Constants.{Constants}
use Rattle.hp_read.specs.declared.lines.Constants.TheVariants as c
use Rattle.hp_read.specs.declared.lines.Function.{Function}
use Rattle.hp_read.specs.declared.lines.Function.TheVariants as f
use Rattle.hp_read.specs.declared.lines.Variables.{Variables}
use Rattle.hp_read.specs.declared.lines.Variables.TheVariants as v
use Rattle.hp_grammar.specs.declared.symbol.Symbol.{Symbol as Token}
use Rattle.hp_grammar.specs.declared.symbol.Symbol.TheVariants.{Word as word, Name as name, Numeral as numeral}
use Rattle.hp_grammar.specs.Token.{same}
use Rattle.hp_grammar.specs.Bodies.{Separated}
use Rattle.hp_grammar.specs.Declarations.{SpellsSort, num, idx, ptr, SpellsName, called, SpellsConstants, constants, constants_of, SpellsFunction, function, SpellsVariable, variable, variable_of, SpellsVariables, none, some}
use Rattle.hp_grammar.specs.Runs.{runs}
use Rattle.hp_read.specs.Stages.{sort_of, constants_step, constants_end, function_step, function_end, variables_step, variables_end}
use Rattle.hp_grammar.proofs.Machines.{bound, result_of}
use Rattle.hp_body.proofs.Found.{◌and◌}
use Rattle.hp_grammar.proofs.Symbols.{same-is}
use Rattle.hp_read.proofs.Layers.{choice, ListIs, listed}

-- what a run goes from and to, where each step keeps it
pub kept : {S : Type 0} (next : S → Token → Option S) (Is : S → List Token → Type 0)
    → ((s n : S) (t : Token) (u : List Token) → Is s u → next s t ≡ Some n → Is n (u and t))
    → (w : List Token) (s n : S) (u : List Token) → Is s u → runs next s w ≡ Some n → Is n (u ++ w)
kept next Is h [] s n u k e = let z : s ≡ n = cc in subst (λ a. Is a (u ++ [])) z (rw append-nil k)
kept next Is h (t ∷ w) s n u k e =
    let b = bound (next s t) (λ a. runs next a w) n e in
    subst (λ z. Is n z) (append_assoc u (t ∷ []) w) (kept next Is h w b.0 n (u and t) (h s b.0 t u k b.1) b.2)

sort_word : (k l : Kind) (s : Sort) → SpellsSort (word l ∷ []) s → same k l ≡ true → SpellsSort (word k ∷ []) s
sort_word k l s h e = subst (λ z. SpellsSort (word z ∷ []) s) (sym (same-is k l e)) h

pub sort_is : (k : Kind) (s : Sort) → sort_of k ≡ Some s → SpellsSort (word k ∷ []) s
unfolding sort_of
sort_is k s e =
    elim (choice (same k kinds.Num) _ _ s e) [
      | inl h ↦ let z : sorts.Num ≡ s = cc in subst (λ a. SpellsSort (word k ∷ []) a) z (sort_word k _ _ num h.0)
      | inr h ↦ elim (choice (same k kinds.Idx) _ _ s h.1) [
        | inl g ↦ let z : sorts.Idx ≡ s = cc in subst (λ a. SpellsSort (word k ∷ []) a) z (sort_word k _ _ idx g.0)
        | inr g ↦ elim (choice (same k kinds.Ptr) _ _ s g.1) [
          | inl i ↦ let z : sorts.Ptr ≡ s = cc in subst (λ a. SpellsSort (word k ∷ []) a) z (sort_word k _ _ ptr i.0)
          | inr i ↦ absurd (cc)
        ]
      ]
    ]

-- the states of a constants' line, and the tokens behind `const`
abbrev pub ConstantsIs : Constants → List Token → Type 0
ConstantsIs (c.Name xs) u = ListIs SpellsName xs u
ConstantsIs (c.Named xs) u = Separated SpellsName kinds.Comma u xs
ConstantsIs (c.Colon xs) u = (w : List Token) × Separated SpellsName kinds.Comma w xs × (u ≡ w and word kinds.Colon)
ConstantsIs (c.Sorted xs s) u = (w : List Token) × (z : List Token) × Separated SpellsName kinds.Comma w xs × SpellsSort z s × (u ≡ w ++ (word kinds.Colon ∷ z))

constants_step_is : (a n : Constants) (t : Token) (u : List Token) → ConstantsIs a u → constants_step a t ≡ Some n → ConstantsIs n (u and t)
constants_step_is (c.Name xs) n (word k) u h e = absurd (cc)
constants_step_is (c.Name xs) n (name x) u h e = let z : c.Named (xs ++ x ∷ []) ≡ n = cc in
    subst (λ a. ConstantsIs a (u and name x)) z (listed SpellsName xs u _ x h (called x))
constants_step_is (c.Name xs) n (numeral x) u h e = absurd (cc)
constants_step_is (c.Named xs) n (word k) u h e =
    elim (choice (same k kinds.Comma) _ _ n e) [
      | inl g ↦ let z : c.Name xs ≡ n = cc in subst (λ a. ConstantsIs a (u and word k)) z (inr (u, h, ap (λ l. u and word l) (same-is k _ g.0)))
      | inr g ↦ elim (choice (same k kinds.Colon) _ _ n g.1) [
        | inl i ↦ let z : c.Colon xs ≡ n = cc in subst (λ a. ConstantsIs a (u and word k)) z (u, h, ap (λ l. u and word l) (same-is k _ i.0))
        | inr i ↦ absurd (cc)
      ]
    ]
constants_step_is (c.Named xs) n (name x) u h e = absurd (cc)
constants_step_is (c.Named xs) n (numeral x) u h e = absurd (cc)
constants_step_is (c.Colon xs) n (word k) u h e =
    let b = bound (sort_of k) (λ s. Some (c.Sorted xs s)) n e in
    let z : c.Sorted xs b.0 ≡ n = cc (b.2) in
    subst (λ a. ConstantsIs a (u and word k)) z (h.0, word k ∷ [], h.1, sort_is k b.0 b.1, rw (h.2, append_assoc) refl)
constants_step_is (c.Colon xs) n (name x) u h e = absurd (cc)
constants_step_is (c.Colon xs) n (numeral x) u h e = absurd (cc)
constants_step_is (c.Sorted xs s) n (word k) u h e = absurd (cc)
constants_step_is (c.Sorted xs s) n (name x) u h e = absurd (cc)
constants_step_is (c.Sorted xs s) n (numeral x) u h e = absurd (cc)

constants_end_is : (a : Constants) (u : List Token) (ds : List Decl) → ConstantsIs a u → constants_end a ≡ Some ds → SpellsConstants u ds
constants_end_is (c.Name xs) u ds h e = absurd (cc)
constants_end_is (c.Named xs) u ds h e = absurd (cc)
constants_end_is (c.Colon xs) u ds h e = absurd (cc)
constants_end_is (c.Sorted xs s) u ds h e = let z : constants_of xs s ≡ ds = cc in
    subst (λ a. SpellsConstants u a) z (rw h.4 (constants h.0 h.1 xs s h.2 h.3))

pub constants_found : (u : List Token) (ds : List Decl) → result_of constants_step constants_end (c.Name []) u ≡ Some ds → SpellsConstants u ds
constants_found u ds e =
    let b = bound (runs constants_step (c.Name []) u) constants_end ds e in
    constants_end_is b.0 u ds (kept constants_step ConstantsIs (λ s n t w. constants_step_is s n t w) u (c.Name []) b.0 [] (inl (refl, refl)) b.1) b.2

-- the states of a function's declaration, and the tokens behind `fun`
abbrev pub ArgumentsAre : List ℕ → List Sort → List Token → Type 0
ArgumentsAre x ss u = (w : List Token) × Separated SpellsSort kinds.Comma w ss × (u ≡ name x ∷ word kinds.OpenRound ∷ w ++ (word kinds.CloseRound ∷ []))

abbrev pub ReturnIs : List ℕ → List Sort → Sort → List Token → Type 0
ReturnIs x ss s u = (w : List Token) × (z : List Token) × Separated SpellsSort kinds.Comma w ss × SpellsSort z s
    × (u ≡ name x ∷ word kinds.OpenRound ∷ w ++ (word kinds.CloseRound ∷ word kinds.Colon ∷ z))

abbrev pub FunctionIs : Function → List Token → Type 0
FunctionIs f.Name u = u ≡ []
FunctionIs (f.Named x) u = u ≡ name x ∷ []
FunctionIs (f.Argument x ss) u = (w : List Token) × ListIs SpellsSort ss w × (u ≡ name x ∷ word kinds.OpenRound ∷ w)
FunctionIs (f.Sorted x ss) u = (w : List Token) × Separated SpellsSort kinds.Comma w ss × (u ≡ name x ∷ word kinds.OpenRound ∷ w)
FunctionIs (f.Closed x ss) u = ArgumentsAre x ss u
FunctionIs (f.Colon x ss) u = (w : List Token) × ArgumentsAre x ss w × (u ≡ w and word kinds.Colon)
FunctionIs (f.Returning x ss s) u = ReturnIs x ss s u
FunctionIs (f.Level x ss s) u = (w : List Token) × ReturnIs x ss s w × (u ≡ w and word kinds.Level)
FunctionIs (f.Leveled x ss s n) u = (w : List Token) × ReturnIs x ss s w × (u ≡ (w and word kinds.Level) and numeral n)

function_word_is : (a n : Function) (k : Kind) (u : List Token) → FunctionIs a u → function_step a (word k) ≡ Some n → FunctionIs n (u and word k)
function_word_is f.Name n k u h e = absurd (cc)
function_word_is (f.Named x) n k u h e =
    elim (choice (same k kinds.OpenRound) _ _ n e) [
      | inl g ↦ let z : f.Argument x [] ≡ n = cc in
          subst (λ a. FunctionIs a (u and word k)) z ([], inl (refl, refl), rw (h, same-is k _ g.0) refl)
      | inr g ↦ absurd (cc)
    ]
function_word_is (f.Argument x ss) n k u h e =
    let b = bound (sort_of k) (λ s. Some (f.Sorted x (ss ++ s ∷ []))) n e in
    let z : f.Sorted x (ss ++ b.0 ∷ []) ≡ n = cc (b.2) in
    subst (λ a. FunctionIs a (u and word k)) z (h.0 ++ word k ∷ [], listed SpellsSort ss h.0 _ b.0 h.1 (sort_is k b.0 b.1), rw h.2 refl)
function_word_is (f.Sorted x ss) n k u h e =
    elim (choice (same k kinds.Comma) _ _ n e) [
      | inl g ↦ let z : f.Argument x ss ≡ n = cc in
          subst (λ a. FunctionIs a (u and word k)) z (h.0 and word kinds.Comma, inr (h.0, h.1, refl), rw (h.2, same-is k _ g.0) refl)
      | inr g ↦ elim (choice (same k kinds.CloseRound) _ _ n g.1) [
        | inl i ↦ let z : f.Closed x ss ≡ n = cc in
            subst (λ a. FunctionIs a (u and word k)) z (h.0, h.1, rw (h.2, same-is k _ i.0) refl)
        | inr i ↦ absurd (cc)
      ]
    ]
function_word_is (f.Closed x ss) n k u h e =
    elim (choice (same k kinds.Colon) _ _ n e) [
      | inl g ↦ let z : f.Colon x ss ≡ n = cc in
          subst (λ a. FunctionIs a (u and word k)) z (u, h, ap (λ l. u and word l) (same-is k _ g.0))
      | inr g ↦ absurd (cc)
    ]
function_word_is (f.Colon x ss) n k u h e =
    let b = bound (sort_of k) (λ s. Some (f.Returning x ss s)) n e in
    let z : f.Returning x ss b.0 ≡ n = cc (b.2) in
    subst (λ a. FunctionIs a (u and word k)) z
    (h.1.0, word k ∷ [], h.1.1, sort_is k b.0 b.1, rw (h.2, h.1.2) (simp append_assoc))
function_word_is (f.Returning x ss s) n k u h e =
    elim (choice (same k kinds.Level) _ _ n e) [
      | inl g ↦ let z : f.Level x ss s ≡ n = cc in
          subst (λ a. FunctionIs a (u and word k)) z (u, h, ap (λ l. u and word l) (same-is k _ g.0))
      | inr g ↦ absurd (cc)
    ]
function_word_is (f.Level x ss s) n k u h e = absurd (cc)
function_word_is (f.Leveled x ss s m) n k u h e = absurd (cc)

function_name_is : (a n : Function) (y : List ℕ) (u : List Token) → FunctionIs a u → function_step a (name y) ≡ Some n → FunctionIs n (u and name y)
function_name_is f.Name n y u h e = let z : f.Named y ≡ n = cc in subst (λ a. FunctionIs a (u and name y)) z (rw h refl)
function_name_is a n y u h e = absurd (cc)

function_numeral_is : (a n : Function) (m : ℕ) (u : List Token) → FunctionIs a u → function_step a (numeral m) ≡ Some n → FunctionIs n (u and numeral m)
function_numeral_is (f.Level x ss s) n m u h e = let z : f.Leveled x ss s m ≡ n = cc in
    subst (λ a. FunctionIs a (u and numeral m)) z (h.0, h.1, rw h.2 refl)
function_numeral_is a n m u h e = absurd (cc)

function_step_is : (a n : Function) (t : Token) (u : List Token) → FunctionIs a u → function_step a t ≡ Some n → FunctionIs n (u and t)
function_step_is a n (word k) u h e = function_word_is a n k u h e
function_step_is a n (name x) u h e = function_name_is a n x u h e
function_step_is a n (numeral m) u h e = function_numeral_is a n m u h e

function_end_is : (a : Function) (u : List Token) (d : Decl) → FunctionIs a u → function_end a ≡ Some d → SpellsFunction u d
function_end_is (f.Leveled x ss s n) u d h e = let z : Fun x ss s n ≡ d = cc in
    let k = h.1 in
    subst (λ a. SpellsFunction u a) z (rw (h.2, k.4) (simp append_assoc (function x k.0 k.1 ss s n k.2 k.3)))
function_end_is a u d h e = absurd (cc)

pub function_found : (u : List Token) (d : Decl) → result_of function_step function_end f.Name u ≡ Some d → SpellsFunction u d
function_found u d e =
    let b = bound (runs function_step f.Name u) function_end d e in
    function_end_is b.0 u d (kept function_step FunctionIs (λ s n t w. function_step_is s n t w) u f.Name b.0 [] refl b.1) b.2

-- the states of a list of variables, and the tokens behind `[`
abbrev pub VariablesAre : Variables → List Token → Type 0
VariablesAre v.First u = u ≡ []
VariablesAre (v.Name vs) u = ListIs SpellsVariable vs u
VariablesAre (v.Named vs x) u = (w : List Token) × ListIs SpellsVariable vs w × (u ≡ w ++ (name x ∷ []))
VariablesAre (v.Colon vs x) u = (w : List Token) × ListIs SpellsVariable vs w × (u ≡ w ++ (name x ∷ word kinds.Colon ∷ []))
VariablesAre (v.Sorted vs) u = Separated SpellsVariable kinds.Comma u vs

variables_step_is : (a n : Variables) (t : Token) (u : List Token) → VariablesAre a u → variables_step a t ≡ Some n → VariablesAre n (u and t)
variables_step_is v.First n (word k) u h e = absurd (cc)
variables_step_is v.First n (name x) u h e = let z : v.Named [] x ≡ n = cc in
    subst (λ a. VariablesAre a (u and name x)) z ([], inl (refl, refl), rw h refl)
variables_step_is v.First n (numeral m) u h e = absurd (cc)
variables_step_is (v.Name vs) n (word k) u h e = absurd (cc)
variables_step_is (v.Name vs) n (name x) u h e = let z : v.Named vs x ≡ n = cc in
    subst (λ a. VariablesAre a (u and name x)) z (u, h, refl)
variables_step_is (v.Name vs) n (numeral m) u h e = absurd (cc)
variables_step_is (v.Named vs x) n (word k) u h e =
    elim (choice (same k kinds.Colon) _ _ n e) [
      | inl g ↦ let z : v.Colon vs x ≡ n = cc in
          subst (λ a. VariablesAre a (u and word k)) z (h.0, h.1, rw (h.2, same-is k _ g.0, append_assoc) refl)
      | inr g ↦ absurd (cc)
    ]
variables_step_is (v.Named vs x) n (name y) u h e = absurd (cc)
variables_step_is (v.Named vs x) n (numeral m) u h e = absurd (cc)
variables_step_is (v.Colon vs x) n (word k) u h e =
    let b = bound (sort_of k) (λ s. Some (v.Sorted (vs ++ variable_of x s ∷ []))) n e in
    let z : v.Sorted (vs ++ variable_of x b.0 ∷ []) ≡ n = cc (b.2) in
    subst (λ a. VariablesAre a (u and word k)) z
    (rw (h.2, append_assoc) (listed SpellsVariable vs h.0 _ _ h.1 (variable x (word k ∷ []) b.0 (sort_is k b.0 b.1))))
variables_step_is (v.Colon vs x) n (name y) u h e = absurd (cc)
variables_step_is (v.Colon vs x) n (numeral m) u h e = absurd (cc)
variables_step_is (v.Sorted vs) n (word k) u h e =
    elim (choice (same k kinds.Comma) _ _ n e) [
      | inl g ↦ let z : v.Name vs ≡ n = cc in
          subst (λ a. VariablesAre a (u and word k)) z (inr (u, h, ap (λ l. u and word l) (same-is k _ g.0)))
      | inr g ↦ absurd (cc)
    ]
variables_step_is (v.Sorted vs) n (name y) u h e = absurd (cc)
variables_step_is (v.Sorted vs) n (numeral m) u h e = absurd (cc)

variables_end_is : (a : Variables) (u : List Token) (vs : List Var) → VariablesAre a u → variables_end a ≡ Some vs → SpellsVariables u vs
variables_end_is v.First u vs h e = let z : [] ≡ vs = cc in subst (λ a. SpellsVariables u a) z (rw h none)
variables_end_is (v.Name ws) u vs h e = absurd (cc)
variables_end_is (v.Named ws x) u vs h e = absurd (cc)
variables_end_is (v.Colon ws x) u vs h e = absurd (cc)
variables_end_is (v.Sorted ws) u vs h e = let z : ws ≡ vs = cc in subst (λ a. SpellsVariables u a) z (some u ws h)

pub variables_found : (u : List Token) (vs : List Var) → result_of variables_step variables_end v.First u ≡ Some vs → SpellsVariables u vs
variables_found u vs e =
    let b = bound (runs variables_step v.First u) variables_end vs e in
    variables_end_is b.0 u vs (kept variables_step VariablesAre (λ s n t w. variables_step_is s n t w) u v.First b.0 [] refl b.1) b.2
