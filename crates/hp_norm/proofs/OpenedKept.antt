-- Terms of clauses with variables: where none occurs in a term, what stands for it among names stands for it in the clause.
use Rattle.std.proofs.Common.{◌≡◌, ℕ, List, true, false, Ok, sym, ap, ◌∙◌, arith}
use Rattle.hp_tree.specs.declared.term.Term.{Term}
use Rattle.hp_tree.specs.declared.problem.Sort.{Sort}
use Rattle.hp_tree.specs.declared.problem.Var.{Var}
use Rattle.hp_terms.specs.declared.forms.Forms.{Forms}
use Rattle.hp_terms.specs.Scope.{Scope, Widens}
use Rattle.hp_terms.specs.Sorting.{forms_of, has_form}
use Rattle.hp_terms.specs.Weight.{weight}
use Rattle.hp_terms.specs.Laws.{HasSort}
use Rattle.hp_terms.proofs.Wider.{stays}
use Rattle.hp_defs.specs.declared.names.Ground.{Ground}
use Rattle.hp_defs.specs.Names.{NameList}
use Rattle.hp_base.specs.Lines.{flat_scope}
use Rattle.hp_norm.specs.Naming.{named}
use Rattle.hp_norm.specs.Opening.{mentions}
use Rattle.hp_norm.specs.Scopes.{clause_scope}
use Rattle.hp_norm.specs.Sound.{IsLater, IsSound}
use Rattle.hp_norm.proofs.ClauseScopes.{AreApart, apart_stays, clause_grows, closed, closed_in_names, names_in_clause}
use Rattle.hp_norm.proofs.Loads.{own_no_more, weights_bound}
use Rattle.hp_norm.proofs.Mentioned.{closed_alike}
use Rattle.hp_norm.proofs.TermsAlways.{terms_are_named}
use Rattle.hp_norm.proofs.TermsKept.{IsKept, Reading}
use Rattle.hp_norm.proofs.TermsNamed.{by_names, IsNameableTerm, IsNamed}

module _ (scope : Scope) (vars : List Var) where
  -- a sound ground set whose names, with the variables, say all that a scope says; no name is a variable
  pub record IsClauseOver (g : Ground) : Type 0 where
    pub sound : IsSound g
    pub wider : Widens scope (clause_scope g.names vars)
    pub apart : AreApart vars g.names

  -- the scope of more and more names, with these variables
  abbrev pub with_vars : NameList → Scope
  with_vars names = clause_scope names vars

  -- applications with variables stay
  abbrev pub in_clause : Reading
  in_clause = record { own = scope; now = with_vars; most = weight; bound = weights_bound; holds = IsClauseOver }

  names_stand : (after : Ground) (term flat : Term) → HasSort scope term → mentions vars term ≡ false → AreApart vars after.names → IsKept (by_names (closed vars scope)) after term flat
      → IsKept in_clause after term flat
  names_stand after term flat sorted none apart k =
      let alike = closed_alike vars scope term none in
      let wide = λ (end : Ground) (l : IsLater after end). stays (flat_scope end.names) (clause_scope end.names vars) (names_in_clause vars end.names l.made (apart_stays vars after end l.begins apart)) flat in
      let has = λ (sort : Sort) (e : has_form (forms_of scope term) sort ≡ true). (sym (ap (λ (f : Forms). has_form f sort) alike.forms) ∙ e) in
      record {
        forms = λ end l. record {
          sorts = λ sort e. (wide end l).sorts sort ((k.forms end l).sorts sort (has sort e));
          whole = λ e. (wide end l).whole ((k.forms end l).whole (sym (ap (λ (f : Forms). f.whole) alike.forms) ∙ e));
        };
        first = λ end l. alike.first ∙ k.first end l ∙ (wide end l).first sorted.sort ((k.forms end l).sorts sorted.sort (has sorted.sort sorted.is));
        light = let m = k.light in let own = own_no_more (closed vars scope) term in omega (arith, m, own);
        same = k.same;
      }

  -- a term without variables becomes what it is among names
  pub closed_opened : (item : ℕ) (term flat : Term) (before after : Ground) → IsNameableTerm scope term → mentions vars term ≡ false → IsClauseOver before → named item term before ≡ Ok (flat, after)
      → IsNamed in_clause term flat before after
  closed_opened item term flat before after able none over e =
      let alike = closed_alike vars scope term none in
      let able2 : IsNameableTerm (closed vars scope) term = record {
        sorted = record { sort = able.sorted.sort; is = sym (ap (λ (f : Forms). has_form f able.sorted.sort) alike.forms) ∙ able.sorted.is };
        light = able.light;
      } in
      let h = terms_are_named (closed vars scope) item term flat before after able2 (record { sound = over.sound; wider = closed_in_names vars scope before.names over.wider }) e in
      let apart = apart_stays vars before after h.grew.begins over.apart in
      record {
        grew = h.grew;
        over = record { sound = h.over.sound; wider = clause_grows vars scope before after h.grew.begins h.over.sound.made over.wider; apart = apart };
        kept = names_stand after term flat able.sorted none apart h.kept;
      }
