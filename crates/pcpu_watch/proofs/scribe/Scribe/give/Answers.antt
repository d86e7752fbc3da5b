use Rattle.std.proofs.Common.{◌≡◌, ◌∙◌, ◌+◌, ℕ, Bool, true, false, cond, ap, refl}
use mir.Val.{bool_byte}
use Rattle.pcpu_watch.proofs.Reading.{can-go-on, reads-on, sees-same}
use Rattle.pcpu_watch.proofs.scribe.Scribe.give.Goals as goal

byte : (b : Bool) → bool_byte b ≡ cond b 1 0
byte true = refl
byte false = refl

pub returns-clause-on : goal.returns-clause-on
returns-clause-on c =
    let s = c.args.self.now in
    let hall = c.args.hall.now in
    let is = c.requires.can.is in
    let ended = ap (λ (n : ℕ). s.ended + n) (c.from.ensures ∙ byte c.opens_next.result ∙ ap (λ (b : Bool). cond b 1 0) c.opens_next.ensures) in
    reads-on hall s _ (sees-same hall s is) is c.args.entry c.requires.found c.requires.few refl ended c.in_ok-add.ensures.added refl is.ahead

pub returns-clause-can : goal.returns-clause-can
returns-clause-can c =
    let s = c.args.self.now in
    let hall = c.args.hall.now in
    let is = c.requires.can.is in
    let ended = ap (λ (n : ℕ). s.ended + n) (c.from.ensures ∙ byte c.opens_next.result ∙ ap (λ (b : Bool). cond b 1 0) c.opens_next.ensures) in
    can-go-on hall s _ (sees-same hall s is) is c.args.entry c.requires.found c.requires.few refl ended c.in_ok-add.ensures.added refl is.ahead c.args.moment c.requires.can c.requires.due
