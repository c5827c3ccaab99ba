-- The law of a free function.
use Rattle.std.proofs.Common.{◌≡◌, [], length, true, ap, ◌∙◌, sym, pos, arith, append-nil}
use Rattle.std.specs.Str.{bytes_eq}
use Rattle.std.specs.List.{Contains}
use Rattle.std.proofs.lemmas.List.Elements.{All-nil}
use Rattle.hp_math.specs.Rational.{whole}
use Rattle.hp_tree.specs.declared.term.Term.{Number}
use Rattle.hp_tree.specs.Universal.{HoldsAll}
use Rattle.hp_model.specs.Value.{rows_value, with_arguments}
use Rattle.hp_local.specs.Frame.{with_tables, HavePoints}
use Rattle.hp_local.specs.Rows.{own_facts, point_rows}
use Rattle.hp_local.specs.Free.{free_group, FreeCompletes}
use Rattle.hp_local.proofs.Rows.{point_rows_value, at_points_kept, own_among, own_congruent}

pub free_completes : FreeCompletes
free_completes frame func count small arity c lower have = (All-nil (HoldsAll frame.size frame.names (with_tables frame.consts lower (free_group frame func count).tables)), points)
  where
    points : HavePoints frame (bytes_eq func) (with_tables frame.consts lower (free_group frame func count).tables)
    points k m i o =
        let own : Contains (own_facts func frame.facts) k = own_among func frame.facts k m o in
        let len : length k.args ≡ count = arity k own in
        let t : bytes_eq func k.func ≡ true = o in
        rw t (
        ap (λ rs. rows_value (with_arguments k.args frame.consts) lower rs (Number (whole (pos 0)))) (sym (append-nil (point_rows (own_facts func frame.facts))))
        ∙ point_rows_value frame.consts lower (own_facts func frame.facts) [] (Number (whole (pos 0))) k.args (omega arith) (λ l a. arity l a ∙ sym len)
        ∙ at_points_kept (own_facts func frame.facts) (own_congruent func frame.facts c) k own _)
