-- A session whose images lie in their buffers.
use Rattle.std.specs.Prelude.{◌≤◌}
use Rattle.flash.specs.Image.{largest}
use Rattle.replay.specs.declared.sessions.Session.{Session}

abbrev pub Sound : Session → Type 0
Sound s = (s.now.len ≤ largest) × (s.kept.len ≤ largest)
