-- The starred positions of document 01, all rows by computation.
use mathlib.Core.Path.{refl}
use Rattle.field.specs.Field.{strip, digits, whole as whole_field, signed, leading}
use Rattle.numbers.specs.Integers.{max_z, min_z, floor_z, ceil_z}
use Rattle.line.specs.Refusal.{unless, unless_at}
use Rattle.line.specs.Line.{climb, among}
use Rattle.table.specs.Tree.{run, after as after_run, forest, weigh, nodes_where, powers, uses, leaves}
use Rattle.table.specs.Root.{nodes}
use Rattle.table.specs.Table.{node_lines, complete, read_text, greatest}
use Rattle.worth.specs.Worth.{largest, smallest, weighted, total, value, shares}
use Rattle.judge.specs.Judge.{levels}
use Rattle.writing.specs.Text.{lines_text}
use Rattle.search.specs.Search.{begin, finish, cut, point, lower, upper, safer, update, stop, scan, search, search_root}
use Rattle.search.specs.Whole.{down_z, up_z, gain_z, loss_z, in_grains}
use Rattle.rollout.specs.Rollout.{fresh, lows, highs, candidates, over, walk, roll}
use Rattle.demands.specs.Rows.{rows, AllTell}

pub all-rows : AllTell rows
unfolding strip digits whole_field signed leading lines_text unless unless_at climb run after_run forest weigh nodes_where leaves node_lines complete read_text greatest among uses powers max_z min_z floor_z largest smallest weighted total value shares levels begin finish cut point lower upper safer update stop scan search search_root ceil_z down_z up_z gain_z loss_z in_grains fresh lows highs candidates over walk roll nodes
all-rows = (refl, (refl, (refl, (refl, (refl, (refl, (refl, (refl, (refl, (refl, (refl, (refl, (refl, (refl, (refl, tt)))))))))))))))
