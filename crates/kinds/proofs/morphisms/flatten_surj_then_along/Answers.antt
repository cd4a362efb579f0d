use Rattle.std.proofs.Common.{false, ◌<◌, arith}
use lib.ListN.{get_or-replicate}
use Rattle.flags.specs.Flags.{places}
use Rattle.records.proofs.Results.{passed_on}
use Rattle.kinds.proofs.Answers.{surj_refused, surj_news, surj_adds}
use Rattle.kinds.proofs.morphisms.flatten_surj_then_along.Goals as goal

pub returns-in_err-masks : goal.returns-in_err-masks
returns-in_err-masks c = rw (passed_on c.from_residual.ensures) (λ sig table t. surj_refused _ table (c.in_err-masks.ensures.value sig table t))

pub returns-in-Nothing : goal.returns-in-Nothing
returns-in-Nothing c =
    let few = c.in-Nothing.ensures.formed.elements_few in
    λ sig table t. surj_adds _ table (c.in_ok-masks.ensures.value sig table t) c.in_ok-masks.ensures.formed c.in-Nothing.ensures.formed
    c.in-Nothing.ensures.value (λ i l. let below : i < places = omega arith in get_or-replicate places i false false below)

pub returns-in-One : goal.returns-in-One
returns-in-One c = λ sig table t. surj_news _ table (c.in_ok-masks.ensures.value sig table t) c.new_elements.ensures.value c.in-One.is
