use Rattle.abi_cookie.specs.ArrayTexts.{element_text}
use Rattle.abi_cookie.proofs.TextLines.{one-line}
use Rattle.abi_cookie.proofs.texts.append_elements.Goals as goal

pub loop-i-preserved : goal.loop-i-preserved
loop-i-preserved c = one-line (element_text c.args.size c.args.cookie) c.args.text.now.items c.loop-i.text.items c.append_element.new.text.items c.loop-i.i c.loop-i.invariant c.in_ok-append_element.ensures
