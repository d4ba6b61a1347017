use mathlib.Core.Path.{◌≡◌}
use Rattle.theory.specs.Logic.Range.{first}
use Rattle.large_images.specs.Images.{start_strays}
use Rattle.large_images.proofs.Merge.first_start.Given as goal

abbrev pub invariant-loop-v : goal.invariant-loop-v
invariant-loop-v l = let p = start_strays l.self.game.now l.self.reduced.now l.self.certificate.now l.self.n l.self.m l.self.k in
    first p 0 l.self.n ≡ first p l.v l.self.n
