use Rattle.share_laws.proofs.Law.{part_share, within_share}
use Rattle.share_laws.proofs.Shared.{has_share}
use Rattle.share_laws.proofs.shares.law_shares.Goals as goal

pub returns-clause-share : goal.returns-clause-share
returns-clause-share c m checked i r rate plain u v wu wv has_u has_v never entries seen run =
    within_share m checked (λ s. c.law_next_moment.ensures m s s.now) (c.law_on_time.ensures m checked) i r rate plain u v wu wv has_u has_v never entries seen run

pub returns-clause-both : goal.returns-clause-both
returns-clause-both c m checked i r rate plain u v wu wv has_u has_v never_u never_v entries seen run = (
  within_share m checked (λ s. c.law_next_moment.ensures m s s.now) (c.law_on_time.ensures m checked) i r rate plain u v wu wv has_u has_v never_v entries seen run,
  within_share m checked (λ s. c.law_next_moment.ensures m s s.now) (c.law_on_time.ensures m checked) i r rate plain v u wv wu has_v has_u never_u entries seen run,
)

pub returns-clause-part : goal.returns-clause-part
returns-clause-part c m checked i r rate plain u v wu wv has_u has_v never_u never_v before entries seen run =
    part_share m checked (λ s. c.law_next_moment.ensures m s s.now) (c.law_on_time.ensures m checked) i r rate plain u v wu wv has_u has_v never_u never_v before entries seen run

pub returns-clause-least : goal.returns-clause-least
returns-clause-least c m checked i r rate plain v wv has_v never entries seen run =
    has_share m checked i r rate plain (λ s. c.law_next_moment.ensures m s s.now) (c.law_on_time.ensures m checked) (c.law_waiting.ensures m checked) v wv never has_v entries run
    (λ u wu has_u. within_share m checked (λ s. c.law_next_moment.ensures m s s.now) (c.law_on_time.ensures m checked) i r rate plain u v wu wv has_u has_v never entries seen run)
