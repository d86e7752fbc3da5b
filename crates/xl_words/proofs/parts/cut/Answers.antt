use Rattle.std.proofs.Common.{◌≤◌, length, length-drop, take_all, arith, drop, ◌+◌, ◌-◌}
use Rattle.xl_words.proofs.PartLemmas.{found_cut, some_part}
use Rattle.xl_words.proofs.parts.cut.Goals as goal

pub returns-in-None-clause-parts : goal.returns-in-None-clause-parts
returns-in-None-clause-parts c = found_cut c.args.separator c.args.bytes.now _ (c.in-None.ensures)

pub returns-in-Some-clause-parts : goal.returns-in-Some-clause-parts
returns-in-Some-clause-parts c =
    let bytes = c.args.bytes.now in
    let k = c.in-Some.at + 1 in
    let cuts = found_cut c.args.separator bytes _ c.in-Some.ensures in
    let fits : length (drop k bytes) ≤ length bytes - k = omega (arith, length-drop k bytes) in
    rw (take_all (length bytes - k) (drop k bytes) fits) (cuts.1)

pub returns-in-Some-clause-two : goal.returns-in-Some-clause-two
returns-in-Some-clause-two c =
    let bytes = c.args.bytes.now in
    let cuts = found_cut c.args.separator bytes _ c.in-Some.ensures in
    rw (cuts.1) (omega (arith, some_part c.args.separator (drop (c.in-Some.at + 1) bytes)))
