use Rattle.booking_desk.proofs.Common.{Bool, cond, subst, codes, with_lf, PutsOn}
use Rattle.booking_desk.proofs.feed_desk.put_over_long.Goals as goal

pub returns-then-is_comment : goal.returns-then-is_comment
returns-then-is_comment c =
    subst (λ (v : Bool). PutsOn c.put_line.result c.args.page.now.text c.put_line.new.page.text (with_lf (cond v (codes "#") (codes "bad"))))
    c.if-is_comment.ensures c.put_line.ensures

pub returns : goal.returns
returns c =
    subst (λ (v : Bool). PutsOn c.put_line-2.result c.args.page.now.text c.put_line-2.new.page.text (with_lf (cond v (codes "#") (codes "bad"))))
    c.if-is_comment.ensures c.put_line-2.ensures
