use Rattle.numbers.proofs.Words.{rules}
use Rattle.method_passes.proofs.Arrays.{lines_more}
use Rattle.method_passes.proofs.register.Register.push.Goals as goal

pub returns : goal.returns
returns c =
    lines_more c.args.self.now c.args.buyer c.args.elevator c.args.seller c.args.lots c.requires
    (record { buyers = search rules; elevators = search rules; sellers = search rules; lots = search rules })
