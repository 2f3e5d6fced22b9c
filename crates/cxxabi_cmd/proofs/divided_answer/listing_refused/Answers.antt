use Rattle.std.proofs.Common.{sym, subst}
use Rattle.abi_foreign.specs.Refusals.{IsRefused}
use Rattle.cxxabi_cmd.specs.declared.status.InputRule.{InputRule}
use Rattle.cxxabi_cmd.specs.declared.status.Status.TheVariants.{BadInput}
use Rattle.cxxabi_cmd.specs.Answers.{line_alone}
use Rattle.cxxabi_cmd.specs.Divided.{IsListingReply, refused_listing}
use Rattle.cxxabi_cmd.proofs.DividedAnswers.{listing_faulted}
use Rattle.cxxabi_cmd.proofs.divided_answer.listing_refused.Goals as goal

pub returns-in-Bad-clause-reply : goal.returns-in-Bad-clause-reply
returns-in-Bad-clause-reply c =
    listing_faulted c.line_alone.result c.args.stop (line_alone (BadInput c.listing_rule.result c.in-Bad.line)) c.line_alone.ensures.answer
    (λ listing h of.
    subst (λ (rule : InputRule). IsListingReply listing h (line_alone (BadInput rule c.in-Bad.line))) (sym c.listing_rule.ensures)
    (refused_listing c.in-Bad.rule c.in-Bad.line (subst (IsRefused h listing) c.in-Bad.is of)))
