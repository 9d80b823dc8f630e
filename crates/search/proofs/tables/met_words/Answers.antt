-- x
use Rattle.std.proofs.Common.{rules, ◌≡◌, [], get_or}
use Rattle.search.specs.Inner.Table.{meets_words, no_table}
use Rattle.search.proofs.PlaceLaws.{zero_words}
use Rattle.search.proofs.tables.met_words.Goals as goal

pub returns-in-None-get : goal.returns-in-None-get
returns-in-None-get c w =
    let a = c.args in
    let empty : meets_words a.t.now a.q a.i ≡ [] = search rules in
    rw (empty, zero_words 33 w)

pub returns-in-None : goal.returns-in-None
returns-in-None c w =
    let a = c.args in
    let empty : get_or a.t.now a.q no_table ≡ no_table = search rules in
    rw (empty, zero_words 33 w)
