-- Tables A and B of document 01, B turned, a lone leaf and a table with two totals: G and the worth, by computation.
use Prim.Native.Nat.{ℕ}
use mathlib.Core.Path.{◌≡◌, refl}
use lib.IntN.{ℤ, pos, negsuc}
use Rattle.field.specs.Field.{strip, digits, whole, signed}
use Rattle.numbers.specs.Integers.{max_z, min_z, floor_z}
use Rattle.line.specs.Refusal.{Verdict, fine, unless, unless_at, next}
use Rattle.line.specs.Line.{climb, among}
use Rattle.table.specs.Tree.{run, after, forest, weigh, nodes_where, powers, uses}
use Rattle.table.specs.Examples.{table-a, table-b, turned-b, lone-leaf, openings}
use Rattle.table.specs.Table.{Table, node_lines, complete, read_text, greatest, grain}
use Rattle.worth.specs.Worth.{largest, smallest, weighted, total, value, shares, worth_of}

-- G and the worth
found : Table → Verdict (ℕ × ℤ)
found t = fine (grain t, worth_of t)

-- table A: 3, at G 1
worth-a : next (read_text table-a) found ≡ fine (1, pos 3)
unfolding found max_z min_z floor_z largest smallest weighted total value shares strip digits whole signed unless unless_at climb run after forest weigh nodes_where node_lines complete read_text greatest among uses powers
worth-a = refl

-- table B: 20 grains, at G 4
worth-b : next (read_text table-b) found ≡ fine (4, pos 20)
unfolding found max_z min_z floor_z largest smallest weighted total value shares strip digits whole signed unless unless_at climb run after forest weigh nodes_where node_lines complete read_text greatest among uses powers
worth-b = refl

-- B turned: minus 20 grains
worth-turned : next (read_text turned-b) found ≡ fine (4, negsuc 19)
unfolding found max_z min_z floor_z largest smallest weighted total value shares strip digits whole signed unless unless_at climb run after forest weigh nodes_where node_lines complete read_text greatest among uses powers
worth-turned = refl

-- a lone leaf of 7
worth-lone : next (read_text lone-leaf) found ≡ fine (1, pos 7)
unfolding found max_z min_z floor_z largest smallest weighted total value shares strip digits whole signed unless unless_at climb run after forest weigh nodes_where node_lines complete read_text greatest among uses powers
worth-lone = refl

-- Item 5: (3 × 2 + 1 × 10) / 4 is 4 points, (1 × 6 + 2 × 4) / 3 is 14 thirds of a point: 56 grains, at G 12
worth-openings : next (read_text openings) found ≡ fine (12, pos 56)
unfolding found max_z min_z floor_z largest smallest weighted total value shares strip digits whole signed unless unless_at climb run after forest weigh nodes_where node_lines complete read_text greatest among uses powers
worth-openings = refl
