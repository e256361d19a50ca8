-- What waits is put in, and then the rounds are evened out.
use Rattle.std.proofs.Common.{arith}
use Rattle.changes.proofs.MakingAgain.{both_put, both_touch, looks_fit, put_plan}
use Rattle.changes.proofs.making_again.make_again.Goals as goal

pub even_out_first-requires-clause-plan : goal.even_out_first-requires-clause-plan
even_out_first-requires-clause-plan c = put_plan _ _ c.args.rounds _ _ c.requires.can c.put_in_each-put.ensures.rule

pub overflow_add-result : goal.overflow_add-result
overflow_add-result c = omega (arith, looks_fit _ c.args.rounds _ _ _ c.requires.can c.put_in_each-put.ensures.few c.even_out_first.ensures.few)

pub returns-clause-rule : goal.returns-clause-rule
returns-clause-rule c = both_put _ _ c.args.rounds _ _ c.requires.can c.put_in_each-put.ensures.rule _ _ c.even_out_first.ensures.rule

pub returns-clause-touched : goal.returns-clause-touched
returns-clause-touched c =
    both_touch _ _ c.args.rounds _ _ c.requires.can c.put_in_each-put.ensures.rule _ _ _ c.put_in_each-put.ensures.touched c.even_out_first.ensures.touched
