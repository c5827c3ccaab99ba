-- A way over joins as a path over rows.
use Rattle.std.proofs.Common.{◌≡◌, ℕ, ◌+◌, ◌-◌, List, [], ◌∷◌, length, map, sym, ap, subst, ◌∙◌, inl, inr, arith, Some, Option}
use Rattle.std.specs.Prelude.{slice_get}
use Rattle.std.specs.Option.{option_map}
use Rattle.std.specs.List.{All}
use Rattle.std.proofs.lemmas.Option.{slice_get-map}
use Rattle.std.proofs.lemmas.List.Elements.{All-weaker}
use Rattle.hp_lit.specs.declared.literal.Name.{Name}
use Rattle.hp_lit.specs.declared.literal.PtrLit.{PtrLit}
use Rattle.hp_lit.specs.declared.literal.Lit.TheVariants.{Ptr}
use Rattle.hp_lit.specs.Cycle.{IsLit}
use Rattle.hp_lit.specs.Pointers.{IsValidPtr, Joins, JoinsAll}
use Rattle.hp_ptreq.specs.declared.answer.Clash.{Clash}
use Rattle.hp_ptreq.specs.declared.classes.Join.{Join}
use Rattle.hp_ptreq.specs.inner.Built.{IsClash}
use Rattle.hp_ptreq.specs.inner.Classes.{join_at}
use Rattle.hp_nodes.specs.Nodes.{name_at}
use Rattle.hp_ptreq.specs.inner.Nodes.{IsJoin}
use Rattle.hp_ptreq.specs.inner.Ways.{IsHop, IsWithin, Way}

row_at : (rows : List PtrLit) (k : ℕ) (row : PtrLit) → slice_get rows k ≡ Some row → slice_get (map Ptr rows) k ≡ Some (Ptr row)
row_at rows k row is = slice_get-map Ptr rows k ∙ ap (option_map Ptr) is

module _ (names : List ℕ) (rows : List PtrLit) (joins : List Join) (each : All (IsJoin names rows) joins) where
  hop_joins : (n a b : ℕ) → IsHop joins n a b → Joins (map Ptr rows) n (name_at names a) (name_at names b)
  hop_joins n a b h =
      let j = join_at joins h.number in
      let p : IsJoin names rows j = each h.number _ h.within in
      let at : IsLit (map Ptr rows) j.lit (Ptr p.row) = (p.lit, row_at rows (j.lit - 1) p.row p.at) in
      record {
        lit = p.row;
        at = subst (λ (k : ℕ). IsLit (map Ptr rows) k (Ptr p.row)) h.is at;
        same = p.same;
        ends = elim h.ends [
          | inl e ↦ inl (sym p.nodes.left_is ∙ ap (name_at names) e.0, sym p.nodes.right_is ∙ ap (name_at names) e.1)
          | inr e ↦ inr (sym p.nodes.right_is ∙ ap (name_at names) e.0, sym p.nodes.left_is ∙ ap (name_at names) e.1)
        ];
      }

  way_joins : (ns : List ℕ) (a b : ℕ) → Way joins a ns b → JoinsAll (map Ptr rows) (name_at names a) ns (name_at names b)
  way_joins [] a b w = ap (name_at names) w
  way_joins (n ∷ ns) a b w = (name_at names w.0, hop_joins n a w.0 w.1, way_joins ns w.0 b w.2)

  pub are_within : All (IsWithin (length names + 1)) joins
  are_within = All-weaker (IsJoin names rows) (IsWithin (length names + 1)) (λ j p. record { left = (let l = p.nodes.left_in in omega arith); right = (let r = p.nodes.right_in in omega arith) }) joins each

  pub valid_path : (labels : List ℕ) (clash : Clash) (ne : ℕ) (path : List ℕ) → IsClash names rows labels clash → ne ≡ clash.row + 1 → Way joins clash.left path clash.right
      → IsValidPtr (map Ptr rows) ne path
  valid_path labels clash ne path c is way =
      let back : clash.row ≡ ne - 1 = omega arith in
      let whole = way_joins path clash.left clash.right way in
      record {
        lit = c.row;
        at = (omega arith, row_at rows (ne - 1) c.row (subst (λ k. slice_get rows k ≡ Some c.row) back c.at));
        apart = c.apart;
        joined = subst (λ (a : Option Name). JoinsAll (map Ptr rows) a path c.row.right) c.nodes.left_is
            (subst (λ (b : Option Name). JoinsAll (map Ptr rows) (name_at names clash.left) path b) c.nodes.right_is whole);
      }
