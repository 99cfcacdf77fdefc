-- `screen::point`: each return has the case that the tests before it leave. Assumes nothing.
use Rattle.numbers.specs.Numbers.{first}
use Rattle.layout.specs.Screen.{point_number, point_of, point_given}
use Rattle.numbers.proofs.Tests.{test_holds, test_fails}
use Rattle.layout.proofs.screen.point.Goals as goal

pub returns-then-not-pages_fit : goal.returns-then-not-pages_fit
unfolding point_given point_of point_number first
returns-then-not-pages_fit c = rw (test_fails c.pages_fit.ensures c.if-not-pages_fit.true)

pub returns-then-not-on_screen : goal.returns-then-not-on_screen
unfolding point_given point_of point_number first
returns-then-not-on_screen c = rw (
  test_holds c.pages_fit.ensures c.if-not-pages_fit.false,
  test_fails c.on_screen.ensures c.if-not-on_screen.true,
)

pub returns : goal.returns
unfolding point_given point_of point_number first
returns c = rw (
  test_holds c.pages_fit.ensures c.if-not-pages_fit.false,
  test_holds c.on_screen.ensures c.if-not-on_screen.false,
  c.place_of.ensures,
)
