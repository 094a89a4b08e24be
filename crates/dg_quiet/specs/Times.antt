-- How long an overheard frame keeps a mote from asking. The suppression is that of Hui and Culler, SenSys 2004; the times
-- are of this profile.
use Rattle.std.specs.Prelude.{ℕ}

-- after a request for the image, in milliseconds
abbrev pub request_window : ℕ
request_window = 128000

-- after a packet of the image, in milliseconds
abbrev pub packet_window : ℕ
packet_window = 64000
