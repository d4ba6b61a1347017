use mathlib.Core.Path.{◌≡◌}
use Rattle.theory.specs.Logic.Range.{first}
use Rattle.large_images.specs.Images.{image_strays}
use Rattle.large_images.proofs.Merge.first_image.Given as goal

abbrev pub invariant-loop-j : goal.invariant-loop-j
invariant-loop-j l = let p = image_strays l.self.game.now l.self.reduced.now l.self.classes.now l.self.certificate.now l.self.n l.self.m l.self.k l.self.q in
    first p 0 l.self.m ≡ first p l.j l.self.m
