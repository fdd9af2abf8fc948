use Rattle.std.proofs.Common.{◌+◌, ◌*◌, length}
use Rattle.label_flow.proofs.staff.+staffs.Given as goal

abbrev pub decreases-staff : goal.decreases-staff
decreases-staff g l = 4 * length l.viewers.now

abbrev pub decreases-beside : goal.decreases-beside
decreases-beside g l = 4 * length l.viewers.now + 2

abbrev pub decreases-beside-other : goal.decreases-beside-other
decreases-beside-other g l = 4 * length l.viewers.now + 1
