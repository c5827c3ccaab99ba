use Rattle.std.proofs.Common.{List, Err, subst, sym, ap, ◌∙◌}
use Rattle.std.specs.List.{All}
use Rattle.hp_base.specs.Making.{Makes}
use Rattle.hp_groups.specs.declared.group.Group.{Group}
use Rattle.hp_groups.specs.contracts.group.GroupLocalClass.TheImpl.{ghosts}
use Rattle.hp_groups.specs.Groups.{groups_made}
use Rattle.hp_chain.proofs.Chained.{by_groups, chain_lent, is_flattened}
use Rattle.hp_chain.proofs.chain.descend.Goals as goal

pub descend_groups-requires-clause-lent : goal.descend_groups-requires-clause-lent
descend_groups-requires-clause-lent c =
    let chain = c.requires.chain in
    subst (λ (groups : List Group). All (λ k. ghosts.IsLent k c.args.ground.names) groups) (sym (c.as_slice.ensures ∙ chain.groups))
    (chain_lent c.args.p.now (chain.read, c.args.ground) c.requires.able c.requires.limits chain.taken c.requires.plain)

pub descend_groups-requires-clause-sound : goal.descend_groups-requires-clause-sound
descend_groups-requires-clause-sound c =
    let chain = c.requires.chain in
    (is_flattened c.args.p.now chain.read.flats c.args.ground c.requires.able c.requires.limits chain.taken.named).sound

pub returns-in-Ok : goal.returns-in-Ok
returns-in-Ok c =
    let chain = c.requires.chain in
    record {
      ground = record {
        able = c.requires.able;
        limits = c.requires.limits;
        plain = c.requires.plain;
        read = (chain.read, c.args.ground);
        taken = chain.taken;
        made = ap (λ groups. groups_made groups c.args.ground) (sym (c.as_slice.ensures ∙ chain.groups)) ∙ c.in-Ok.ensures.made;
      };
      groups = chain.groups;
    }

pub returns-in-Err : goal.returns-in-Err
returns-in-Err c =
    let chain = c.requires.chain in
    let made = subst (λ (groups : List Group). Makes (groups_made groups) c.args.ground c.descend_groups.new.g (Err c.in-Err.error)) c.as_slice.ensures c.in-Err.ensures.made in
    by_groups c.args.p.now c.args.chain.now chain.read c.args.ground c.descend_groups.new.g c.in-Err.error chain.taken chain.groups made
