-- What is left of the lines gets shorter.
use Rattle.std.proofs.Common.{◌+◌, ◌*◌, length}
use Rattle.expand_bodies.proofs.reading.Reader.+reading.Given as goal

abbrev pub decreases-statements : goal.decreases-statements
decreases-statements l = 4 * length l.self.now.rest.now

abbrev pub decreases-bind : goal.decreases-bind
decreases-bind l = 4 * length l.self.now.rest.now + 1

abbrev pub decreases-branches : goal.decreases-branches
decreases-branches l = 4 * length l.self.now.rest.now + 3

abbrev pub decreases-last_branch : goal.decreases-last_branch
decreases-last_branch l = 4 * length l.self.now.rest.now + 2

abbrev pub decreases-followed : goal.decreases-followed
decreases-followed l = 4 * length l.self.now.rest.now + 1
