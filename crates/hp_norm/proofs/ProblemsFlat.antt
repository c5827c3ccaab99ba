-- The ground set of a problem begins with its declared names, and what is made of its clauses says what they say.
use Rattle.std.proofs.Common.{◌≡◌, length, Ok, sym, subst}
use Rattle.std.specs.List.{All}
use Rattle.std.proofs.lemmas.List.Elements.{All-nil}
use Rattle.hp_num.proofs.Given as given
use Rattle.hp_lit.specs.declared.line.Line.{Line}
use Rattle.hp_lit.specs.Truth.{LineIsTrue}
use Rattle.hp_defs.specs.declared.names.Ground.{Ground}
use Rattle.hp_base.proofs.Making.{begins_same}
use Rattle.hp_sorts.proofs.Faultless.{faultless_problems_are_well_sorted}
use Rattle.hp_norm.specs.Flat.{FlatteningSays, clauses_made}
use Rattle.hp_norm.specs.Lines.{declared_ground, start}
use Rattle.hp_norm.proofs.DeclaredGround.{declared_sound, started}
use Rattle.hp_norm.proofs.FlatNamed.{IsReady, clauses_flattened}

pub flattening_says : FlatteningSays
flattening_says p flats g able e =
    let s = given.came (start p.decls) (λ x. clauses_made (length p.decls) 1 p.clauses x) (flats, g) e in
    let begun = started p s.value s.first in
    let sound = declared_sound p able begun.few in
    let from = subst (λ (x : Ground). clauses_made (length p.decls) 1 p.clauses x ≡ Ok (flats, g)) (sym begun.same) s.rest in
    let ready : All (IsReady p sound) p.clauses =
    λ k d within. record {
      sorted = (faultless_problems_are_well_sorted p able.sorted).clauses k d within;
      light = able.light k d within;
      plain = able.plain_variables k d within;
    } in
    let h = clauses_flattened p sound (length p.decls) 1 p.clauses flats (declared_ground p.decls) g ready sound (begins_same (declared_ground p.decls)) from in
    record {
      constants = h.begins.constants;
      signatures = h.begins.signatures;
      sound = h.sound;
      lines = λ end v env functions l values have.
          let says = h.lines end v env functions l values have in
          (λ all. (says.0 all).1, λ all. says.1 (All-nil (λ (line : Line). LineIsTrue v line.lits), all));
      clauses = h.clauses_flat;
    }
