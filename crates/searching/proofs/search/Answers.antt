-- `searching::search` meets its contract.
use Rattle.std.proofs.Common.{length, sym, arith}
use Rattle.std.proofs.Math.Nat.{le_refl}
use Rattle.table.specs.Tree.{MAX, MIN, CHANCE}
use Rattle.table.specs.Nodes.{slices_in}
use Rattle.searching.proofs.Read.{kind_at, inner_at, chance_at}
use Rattle.searching.proofs.Rules.{ready-inner, ready-own, ready-leaf, told-leaf, told-inner}
use Rattle.searching.proofs.Root.{root-first, root-ready, root-long, root-searched, leaf-searched}
use Rattle.searching.proofs.search.Goals as goal

pub bounds-0 : goal.bounds-0
bounds-0 c = root-long c.args.nodes.now c.requires

pub leaf_at-requires : goal.leaf_at-requires
leaf_at-requires c =
    let n = c.args.nodes.now in
    (root-long n c.requires, le_refl _, omega arith, ready-leaf (root-first c.requires (length c.args.leaves.now)) (kind_at n 0 c.in-Leaf.is))

pub returns-in-Leaf : goal.returns-in-Leaf
returns-in-Leaf c =
    let n = c.args.nodes.now in
    leaf-searched (kind_at n 0 c.in-Leaf.is) (told-leaf (kind_at n 0 c.in-Leaf.is) c.leaf_at.ensures)

pub ends_at-u-requires : goal.ends_at-u-requires
ends_at-u-requires c = ready-own (root-first c.requires (length c.args.leaves.now)) (inner_at c.args.nodes.now 0 c.in_default.not-Leaf)

pub max_over-requires : goal.max_over-requires
max_over-requires c =
    let n = c.args.nodes.now in
    ready-inner (root-ready c.requires (length c.args.leaves.now) (inner_at n 0 c.in_default.not-Leaf) c.ends_at-u.ensures) MAX c.ends_at-u.ensures (kind_at n 0 c.in-Max.is)

pub returns-in-Max : goal.returns-in-Max
returns-in-Max c =
    let n = c.args.nodes.now in
    let r = root-first c.requires (length c.args.leaves.now) in
    root-searched c.ends_at-u.ensures (told-inner {t = slices_in n} MAX c.ends_at-u.ensures (kind_at n 0 c.in-Max.is) (sym r.stop) c.max_over.ensures)

pub min_over-requires : goal.min_over-requires
min_over-requires c =
    let n = c.args.nodes.now in
    ready-inner (root-ready c.requires (length c.args.leaves.now) (inner_at n 0 c.in_default.not-Leaf) c.ends_at-u.ensures) MIN c.ends_at-u.ensures (kind_at n 0 c.in-Min.is)

pub returns-in-Min : goal.returns-in-Min
returns-in-Min c =
    let n = c.args.nodes.now in
    let r = root-first c.requires (length c.args.leaves.now) in
    root-searched c.ends_at-u.ensures (told-inner {t = slices_in n} MIN c.ends_at-u.ensures (kind_at n 0 c.in-Min.is) (sym r.stop) c.min_over.ensures)

pub chance_over-requires : goal.chance_over-requires
chance_over-requires c =
    let n = c.args.nodes.now in
    ready-inner (root-ready c.requires (length c.args.leaves.now) (inner_at n 0 c.in_default.not-Leaf) c.ends_at-u.ensures) CHANCE c.ends_at-u.ensures (chance_at n 0 c.in_default.not-Leaf c.in_default-kind.not-Max c.in_default-kind.not-Min)

pub returns-in_default-kind : goal.returns-in_default-kind
returns-in_default-kind c =
    let n = c.args.nodes.now in
    let r = root-first c.requires (length c.args.leaves.now) in
    root-searched c.ends_at-u.ensures (told-inner {t = slices_in n} CHANCE c.ends_at-u.ensures (chance_at n 0 c.in_default.not-Leaf c.in_default-kind.not-Max c.in_default-kind.not-Min) (sym r.stop) c.chance_over.ensures)
