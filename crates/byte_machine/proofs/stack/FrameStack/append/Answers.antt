use Rattle.std.proofs.Common.{◌≡◌, ℕ, ◌+◌, ◌++◌, length, ap, sym, ◌∙◌, reverse}
use Rattle.byte_machine.specs.GivenFrames.{frames_of}
use Rattle.byte_machine.proofs.Stacked.{appended}
use Rattle.byte_machine.proofs.stack.FrameStack.append.Goals as goal

pub returns-clause-frames : goal.returns-clause-frames
returns-clause-frames c =
    let many : c.len.result + c.len-2.result ≡ length c.self.inside.waiting.items + length c.args.frames.now.items = search in
    appended c.self.inside.size _ _ c.self.inside.waiting.items c.resize.new.self.items (reverse c.self.inside.owners.items) c.self.inside.in_full.items c.args.frames.now.items c.append.new.self.items (search) many c.in_ok-resize.ensures.items c.in_ok-append.ensures.items ∙ ap (λ waiting. frames_of c.args.frames.now.items ++ waiting) c.self.view_is
