use Rattle.due_heap.proofs.Told.{told_looked}
use Rattle.due_heap.proofs.set.look.Goals as goal

pub returns : goal.returns
returns c =
    told_looked c.args.moments.now c.args.words.now c.args.t c.sift-sifted.result.come c.union-words.result c.difference-words.result c.sift-sifted.result.soon c.sift-sifted.result.next c.requires.words c.requires.after
    c.sift-sifted.ensures.come c.union-words.ensures c.difference-words.ensures c.sift-sifted.ensures.soon
