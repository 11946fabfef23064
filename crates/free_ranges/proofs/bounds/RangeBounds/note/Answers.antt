use Rattle.std.proofs.Common.{◌+◌, ◌&&◌, not, List, Bool, set, ap, ◌∙◌}
use Rattle.free_ranges.proofs.Bounded.{told_put}
use Rattle.free_ranges.proofs.bounds.RangeBounds.note.Goals as goal

pub returns : goal.returns
returns c row new tells put between =
    let a = c.args in
    let end = a.start + a.n in
    told_put new a.start a.n a.used a.used_before a.used_behind between row a.self.now c.tell-2.new.self tells put c.requires.begins c.requires.stops
    (c.tell-2.ensures.begins ∙ ap (λ (xs : List Bool). set xs end (not a.used_behind && a.used)) c.tell.ensures.begins)
    (c.tell-2.ensures.stops ∙ ap (λ (xs : List Bool). set xs end (not a.used && a.used_behind)) c.tell.ensures.stops)
