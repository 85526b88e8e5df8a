-- `numbers::table::entry` meets its contract: each arm by its key. Assumes nothing.
use Rattle.std.proofs.Common.{arith}
use Rattle.rules.specs.F32.{at}
use Rattle.rules.proofs.Tests.{keyed}
use Rattle.numbers.specs.Tansig.{tansig, tansig_bits}
use Rattle.numbers.proofs.table.entry.Goals as goal

pub returns-in-0 : goal.returns-in-0
unfolding tansig tansig_bits
returns-in-0 c = keyed (at tansig) c.in-0.is

pub returns-in-1 : goal.returns-in-1
unfolding tansig tansig_bits
returns-in-1 c = keyed (at tansig) c.in-1.is

pub returns-in-2 : goal.returns-in-2
unfolding tansig tansig_bits
returns-in-2 c = keyed (at tansig) c.in-2.is

pub returns-in-3 : goal.returns-in-3
unfolding tansig tansig_bits
returns-in-3 c = keyed (at tansig) c.in-3.is

pub returns-in-4 : goal.returns-in-4
unfolding tansig tansig_bits
returns-in-4 c = keyed (at tansig) c.in-4.is

pub returns-in-5 : goal.returns-in-5
unfolding tansig tansig_bits
returns-in-5 c = keyed (at tansig) c.in-5.is

pub returns-in-6 : goal.returns-in-6
unfolding tansig tansig_bits
returns-in-6 c = keyed (at tansig) c.in-6.is

pub returns-in-7 : goal.returns-in-7
unfolding tansig tansig_bits
returns-in-7 c = keyed (at tansig) c.in-7.is

pub returns-in-8 : goal.returns-in-8
unfolding tansig tansig_bits
returns-in-8 c = keyed (at tansig) c.in-8.is

pub returns-in-9 : goal.returns-in-9
unfolding tansig tansig_bits
returns-in-9 c = keyed (at tansig) c.in-9.is

pub returns-in-10 : goal.returns-in-10
unfolding tansig tansig_bits
returns-in-10 c = keyed (at tansig) c.in-10.is

pub returns-in-11 : goal.returns-in-11
unfolding tansig tansig_bits
returns-in-11 c = keyed (at tansig) c.in-11.is

pub returns-in-12 : goal.returns-in-12
unfolding tansig tansig_bits
returns-in-12 c = keyed (at tansig) c.in-12.is

pub returns-in-13 : goal.returns-in-13
unfolding tansig tansig_bits
returns-in-13 c = keyed (at tansig) c.in-13.is

pub returns-in-14 : goal.returns-in-14
unfolding tansig tansig_bits
returns-in-14 c = keyed (at tansig) c.in-14.is

pub returns-in-15 : goal.returns-in-15
unfolding tansig tansig_bits
returns-in-15 c = keyed (at tansig) c.in-15.is

pub returns-in-16 : goal.returns-in-16
unfolding tansig tansig_bits
returns-in-16 c = keyed (at tansig) c.in-16.is

pub returns-in-17 : goal.returns-in-17
unfolding tansig tansig_bits
returns-in-17 c = keyed (at tansig) c.in-17.is

pub returns-in-18 : goal.returns-in-18
unfolding tansig tansig_bits
returns-in-18 c = keyed (at tansig) c.in-18.is

pub returns-in-19 : goal.returns-in-19
unfolding tansig tansig_bits
returns-in-19 c = keyed (at tansig) c.in-19.is

pub returns-in-20 : goal.returns-in-20
unfolding tansig tansig_bits
returns-in-20 c = keyed (at tansig) c.in-20.is

pub returns-in-21 : goal.returns-in-21
unfolding tansig tansig_bits
returns-in-21 c = keyed (at tansig) c.in-21.is

pub returns-in-22 : goal.returns-in-22
unfolding tansig tansig_bits
returns-in-22 c = keyed (at tansig) c.in-22.is

pub returns-in-23 : goal.returns-in-23
unfolding tansig tansig_bits
returns-in-23 c = keyed (at tansig) c.in-23.is

pub returns-in-24 : goal.returns-in-24
unfolding tansig tansig_bits
returns-in-24 c = keyed (at tansig) c.in-24.is

pub returns-in-25 : goal.returns-in-25
unfolding tansig tansig_bits
returns-in-25 c = keyed (at tansig) c.in-25.is

pub returns-in-26 : goal.returns-in-26
unfolding tansig tansig_bits
returns-in-26 c = keyed (at tansig) c.in-26.is

pub returns-in-27 : goal.returns-in-27
unfolding tansig tansig_bits
returns-in-27 c = keyed (at tansig) c.in-27.is

pub returns-in-28 : goal.returns-in-28
unfolding tansig tansig_bits
returns-in-28 c = keyed (at tansig) c.in-28.is

pub returns-in-29 : goal.returns-in-29
unfolding tansig tansig_bits
returns-in-29 c = keyed (at tansig) c.in-29.is

pub returns-in-30 : goal.returns-in-30
unfolding tansig tansig_bits
returns-in-30 c = keyed (at tansig) c.in-30.is

pub returns-in-31 : goal.returns-in-31
unfolding tansig tansig_bits
returns-in-31 c = keyed (at tansig) c.in-31.is

pub returns-in-32 : goal.returns-in-32
unfolding tansig tansig_bits
returns-in-32 c = keyed (at tansig) c.in-32.is

pub returns-in-33 : goal.returns-in-33
unfolding tansig tansig_bits
returns-in-33 c = keyed (at tansig) c.in-33.is

pub returns-in-34 : goal.returns-in-34
unfolding tansig tansig_bits
returns-in-34 c = keyed (at tansig) c.in-34.is

pub returns-in-35 : goal.returns-in-35
unfolding tansig tansig_bits
returns-in-35 c = keyed (at tansig) c.in-35.is

pub returns-in-36 : goal.returns-in-36
unfolding tansig tansig_bits
returns-in-36 c = keyed (at tansig) c.in-36.is

pub returns-in-37 : goal.returns-in-37
unfolding tansig tansig_bits
returns-in-37 c = keyed (at tansig) c.in-37.is

pub returns-in-38 : goal.returns-in-38
unfolding tansig tansig_bits
returns-in-38 c = keyed (at tansig) c.in-38.is

pub returns-in-39 : goal.returns-in-39
unfolding tansig tansig_bits
returns-in-39 c = keyed (at tansig) c.in-39.is

pub returns-in-40 : goal.returns-in-40
unfolding tansig tansig_bits
returns-in-40 c = keyed (at tansig) c.in-40.is

pub returns-in-41 : goal.returns-in-41
unfolding tansig tansig_bits
returns-in-41 c = keyed (at tansig) c.in-41.is

pub returns-in-42 : goal.returns-in-42
unfolding tansig tansig_bits
returns-in-42 c = keyed (at tansig) c.in-42.is

pub returns-in-43 : goal.returns-in-43
unfolding tansig tansig_bits
returns-in-43 c = keyed (at tansig) c.in-43.is

pub returns-in-44 : goal.returns-in-44
unfolding tansig tansig_bits
returns-in-44 c = keyed (at tansig) c.in-44.is

pub returns-in-45 : goal.returns-in-45
unfolding tansig tansig_bits
returns-in-45 c = keyed (at tansig) c.in-45.is

pub returns-in-46 : goal.returns-in-46
unfolding tansig tansig_bits
returns-in-46 c = keyed (at tansig) c.in-46.is

pub returns-in-47 : goal.returns-in-47
unfolding tansig tansig_bits
returns-in-47 c = keyed (at tansig) c.in-47.is

pub returns-in-48 : goal.returns-in-48
unfolding tansig tansig_bits
returns-in-48 c = keyed (at tansig) c.in-48.is

pub returns-in-49 : goal.returns-in-49
unfolding tansig tansig_bits
returns-in-49 c = keyed (at tansig) c.in-49.is

pub returns-in-50 : goal.returns-in-50
unfolding tansig tansig_bits
returns-in-50 c = keyed (at tansig) c.in-50.is

pub returns-in-51 : goal.returns-in-51
unfolding tansig tansig_bits
returns-in-51 c = keyed (at tansig) c.in-51.is

pub returns-in-52 : goal.returns-in-52
unfolding tansig tansig_bits
returns-in-52 c = keyed (at tansig) c.in-52.is

pub returns-in-53 : goal.returns-in-53
unfolding tansig tansig_bits
returns-in-53 c = keyed (at tansig) c.in-53.is

pub returns-in-54 : goal.returns-in-54
unfolding tansig tansig_bits
returns-in-54 c = keyed (at tansig) c.in-54.is

pub returns-in-55 : goal.returns-in-55
unfolding tansig tansig_bits
returns-in-55 c = keyed (at tansig) c.in-55.is

pub returns-in-56 : goal.returns-in-56
unfolding tansig tansig_bits
returns-in-56 c = keyed (at tansig) c.in-56.is

pub returns-in-57 : goal.returns-in-57
unfolding tansig tansig_bits
returns-in-57 c = keyed (at tansig) c.in-57.is

pub returns-in-58 : goal.returns-in-58
unfolding tansig tansig_bits
returns-in-58 c = keyed (at tansig) c.in-58.is

pub returns-in-59 : goal.returns-in-59
unfolding tansig tansig_bits
returns-in-59 c = keyed (at tansig) c.in-59.is

pub returns-in-60 : goal.returns-in-60
unfolding tansig tansig_bits
returns-in-60 c = keyed (at tansig) c.in-60.is

pub returns-in-61 : goal.returns-in-61
unfolding tansig tansig_bits
returns-in-61 c = keyed (at tansig) c.in-61.is

pub returns-in-62 : goal.returns-in-62
unfolding tansig tansig_bits
returns-in-62 c = keyed (at tansig) c.in-62.is

pub returns-in-63 : goal.returns-in-63
unfolding tansig tansig_bits
returns-in-63 c = keyed (at tansig) c.in-63.is

pub returns-in-64 : goal.returns-in-64
unfolding tansig tansig_bits
returns-in-64 c = keyed (at tansig) c.in-64.is

pub returns-in-65 : goal.returns-in-65
unfolding tansig tansig_bits
returns-in-65 c = keyed (at tansig) c.in-65.is

pub returns-in-66 : goal.returns-in-66
unfolding tansig tansig_bits
returns-in-66 c = keyed (at tansig) c.in-66.is

pub returns-in-67 : goal.returns-in-67
unfolding tansig tansig_bits
returns-in-67 c = keyed (at tansig) c.in-67.is

pub returns-in-68 : goal.returns-in-68
unfolding tansig tansig_bits
returns-in-68 c = keyed (at tansig) c.in-68.is

pub returns-in-69 : goal.returns-in-69
unfolding tansig tansig_bits
returns-in-69 c = keyed (at tansig) c.in-69.is

pub returns-in-70 : goal.returns-in-70
unfolding tansig tansig_bits
returns-in-70 c = keyed (at tansig) c.in-70.is

pub returns-in-71 : goal.returns-in-71
unfolding tansig tansig_bits
returns-in-71 c = keyed (at tansig) c.in-71.is

pub returns-in-72 : goal.returns-in-72
unfolding tansig tansig_bits
returns-in-72 c = keyed (at tansig) c.in-72.is

pub returns-in-73 : goal.returns-in-73
unfolding tansig tansig_bits
returns-in-73 c = keyed (at tansig) c.in-73.is

pub returns-in-74 : goal.returns-in-74
unfolding tansig tansig_bits
returns-in-74 c = keyed (at tansig) c.in-74.is

pub returns-in-75 : goal.returns-in-75
unfolding tansig tansig_bits
returns-in-75 c = keyed (at tansig) c.in-75.is

pub returns-in-76 : goal.returns-in-76
unfolding tansig tansig_bits
returns-in-76 c = keyed (at tansig) c.in-76.is

pub returns-in-77 : goal.returns-in-77
unfolding tansig tansig_bits
returns-in-77 c = keyed (at tansig) c.in-77.is

pub returns-in-78 : goal.returns-in-78
unfolding tansig tansig_bits
returns-in-78 c = keyed (at tansig) c.in-78.is

pub returns-in-79 : goal.returns-in-79
unfolding tansig tansig_bits
returns-in-79 c = keyed (at tansig) c.in-79.is

pub returns-in-80 : goal.returns-in-80
unfolding tansig tansig_bits
returns-in-80 c = keyed (at tansig) c.in-80.is

pub returns-in-81 : goal.returns-in-81
unfolding tansig tansig_bits
returns-in-81 c = keyed (at tansig) c.in-81.is

pub returns-in-82 : goal.returns-in-82
unfolding tansig tansig_bits
returns-in-82 c = keyed (at tansig) c.in-82.is

pub returns-in-83 : goal.returns-in-83
unfolding tansig tansig_bits
returns-in-83 c = keyed (at tansig) c.in-83.is

pub returns-in-84 : goal.returns-in-84
unfolding tansig tansig_bits
returns-in-84 c = keyed (at tansig) c.in-84.is

pub returns-in-85 : goal.returns-in-85
unfolding tansig tansig_bits
returns-in-85 c = keyed (at tansig) c.in-85.is

pub returns-in-86 : goal.returns-in-86
unfolding tansig tansig_bits
returns-in-86 c = keyed (at tansig) c.in-86.is

pub returns-in-87 : goal.returns-in-87
unfolding tansig tansig_bits
returns-in-87 c = keyed (at tansig) c.in-87.is

pub returns-in-88 : goal.returns-in-88
unfolding tansig tansig_bits
returns-in-88 c = keyed (at tansig) c.in-88.is

pub returns-in-89 : goal.returns-in-89
unfolding tansig tansig_bits
returns-in-89 c = keyed (at tansig) c.in-89.is

pub returns-in-90 : goal.returns-in-90
unfolding tansig tansig_bits
returns-in-90 c = keyed (at tansig) c.in-90.is

pub returns-in-91 : goal.returns-in-91
unfolding tansig tansig_bits
returns-in-91 c = keyed (at tansig) c.in-91.is

pub returns-in-92 : goal.returns-in-92
unfolding tansig tansig_bits
returns-in-92 c = keyed (at tansig) c.in-92.is

pub returns-in-93 : goal.returns-in-93
unfolding tansig tansig_bits
returns-in-93 c = keyed (at tansig) c.in-93.is

pub returns-in-94 : goal.returns-in-94
unfolding tansig tansig_bits
returns-in-94 c = keyed (at tansig) c.in-94.is

pub returns-in-95 : goal.returns-in-95
unfolding tansig tansig_bits
returns-in-95 c = keyed (at tansig) c.in-95.is

pub returns-in-96 : goal.returns-in-96
unfolding tansig tansig_bits
returns-in-96 c = keyed (at tansig) c.in-96.is

pub returns-in-97 : goal.returns-in-97
unfolding tansig tansig_bits
returns-in-97 c = keyed (at tansig) c.in-97.is

pub returns-in-98 : goal.returns-in-98
unfolding tansig tansig_bits
returns-in-98 c = keyed (at tansig) c.in-98.is

pub returns-in-99 : goal.returns-in-99
unfolding tansig tansig_bits
returns-in-99 c = keyed (at tansig) c.in-99.is

pub returns-in-100 : goal.returns-in-100
unfolding tansig tansig_bits
returns-in-100 c = keyed (at tansig) c.in-100.is

pub returns-in-101 : goal.returns-in-101
unfolding tansig tansig_bits
returns-in-101 c = keyed (at tansig) c.in-101.is

pub returns-in-102 : goal.returns-in-102
unfolding tansig tansig_bits
returns-in-102 c = keyed (at tansig) c.in-102.is

pub returns-in-103 : goal.returns-in-103
unfolding tansig tansig_bits
returns-in-103 c = keyed (at tansig) c.in-103.is

pub returns-in-104 : goal.returns-in-104
unfolding tansig tansig_bits
returns-in-104 c = keyed (at tansig) c.in-104.is

pub returns-in-105 : goal.returns-in-105
unfolding tansig tansig_bits
returns-in-105 c = keyed (at tansig) c.in-105.is

pub returns-in-106 : goal.returns-in-106
unfolding tansig tansig_bits
returns-in-106 c = keyed (at tansig) c.in-106.is

pub returns-in-107 : goal.returns-in-107
unfolding tansig tansig_bits
returns-in-107 c = keyed (at tansig) c.in-107.is

pub returns-in-108 : goal.returns-in-108
unfolding tansig tansig_bits
returns-in-108 c = keyed (at tansig) c.in-108.is

pub returns-in-109 : goal.returns-in-109
unfolding tansig tansig_bits
returns-in-109 c = keyed (at tansig) c.in-109.is

pub returns-in-110 : goal.returns-in-110
unfolding tansig tansig_bits
returns-in-110 c = keyed (at tansig) c.in-110.is

pub returns-in-111 : goal.returns-in-111
unfolding tansig tansig_bits
returns-in-111 c = keyed (at tansig) c.in-111.is

pub returns-in-112 : goal.returns-in-112
unfolding tansig tansig_bits
returns-in-112 c = keyed (at tansig) c.in-112.is

pub returns-in-113 : goal.returns-in-113
unfolding tansig tansig_bits
returns-in-113 c = keyed (at tansig) c.in-113.is

pub returns-in-114 : goal.returns-in-114
unfolding tansig tansig_bits
returns-in-114 c = keyed (at tansig) c.in-114.is

pub returns-in-115 : goal.returns-in-115
unfolding tansig tansig_bits
returns-in-115 c = keyed (at tansig) c.in-115.is

pub returns-in-116 : goal.returns-in-116
unfolding tansig tansig_bits
returns-in-116 c = keyed (at tansig) c.in-116.is

pub returns-in-117 : goal.returns-in-117
unfolding tansig tansig_bits
returns-in-117 c = keyed (at tansig) c.in-117.is

pub returns-in-118 : goal.returns-in-118
unfolding tansig tansig_bits
returns-in-118 c = keyed (at tansig) c.in-118.is

pub returns-in-119 : goal.returns-in-119
unfolding tansig tansig_bits
returns-in-119 c = keyed (at tansig) c.in-119.is

pub returns-in-120 : goal.returns-in-120
unfolding tansig tansig_bits
returns-in-120 c = keyed (at tansig) c.in-120.is

pub returns-in-121 : goal.returns-in-121
unfolding tansig tansig_bits
returns-in-121 c = keyed (at tansig) c.in-121.is

pub returns-in-122 : goal.returns-in-122
unfolding tansig tansig_bits
returns-in-122 c = keyed (at tansig) c.in-122.is

pub returns-in-123 : goal.returns-in-123
unfolding tansig tansig_bits
returns-in-123 c = keyed (at tansig) c.in-123.is

pub returns-in-124 : goal.returns-in-124
unfolding tansig tansig_bits
returns-in-124 c = keyed (at tansig) c.in-124.is

pub returns-in-125 : goal.returns-in-125
unfolding tansig tansig_bits
returns-in-125 c = keyed (at tansig) c.in-125.is

pub returns-in-126 : goal.returns-in-126
unfolding tansig tansig_bits
returns-in-126 c = keyed (at tansig) c.in-126.is

pub returns-in-127 : goal.returns-in-127
unfolding tansig tansig_bits
returns-in-127 c = keyed (at tansig) c.in-127.is

pub returns-in-128 : goal.returns-in-128
unfolding tansig tansig_bits
returns-in-128 c = keyed (at tansig) c.in-128.is

pub returns-in-129 : goal.returns-in-129
unfolding tansig tansig_bits
returns-in-129 c = keyed (at tansig) c.in-129.is

pub returns-in-130 : goal.returns-in-130
unfolding tansig tansig_bits
returns-in-130 c = keyed (at tansig) c.in-130.is

pub returns-in-131 : goal.returns-in-131
unfolding tansig tansig_bits
returns-in-131 c = keyed (at tansig) c.in-131.is

pub returns-in-132 : goal.returns-in-132
unfolding tansig tansig_bits
returns-in-132 c = keyed (at tansig) c.in-132.is

pub returns-in-133 : goal.returns-in-133
unfolding tansig tansig_bits
returns-in-133 c = keyed (at tansig) c.in-133.is

pub returns-in-134 : goal.returns-in-134
unfolding tansig tansig_bits
returns-in-134 c = keyed (at tansig) c.in-134.is

pub returns-in-135 : goal.returns-in-135
unfolding tansig tansig_bits
returns-in-135 c = keyed (at tansig) c.in-135.is

pub returns-in-136 : goal.returns-in-136
unfolding tansig tansig_bits
returns-in-136 c = keyed (at tansig) c.in-136.is

pub returns-in-137 : goal.returns-in-137
unfolding tansig tansig_bits
returns-in-137 c = keyed (at tansig) c.in-137.is

pub returns-in-138 : goal.returns-in-138
unfolding tansig tansig_bits
returns-in-138 c = keyed (at tansig) c.in-138.is

pub returns-in-139 : goal.returns-in-139
unfolding tansig tansig_bits
returns-in-139 c = keyed (at tansig) c.in-139.is

pub returns-in-140 : goal.returns-in-140
unfolding tansig tansig_bits
returns-in-140 c = keyed (at tansig) c.in-140.is

pub returns-in-141 : goal.returns-in-141
unfolding tansig tansig_bits
returns-in-141 c = keyed (at tansig) c.in-141.is

pub returns-in-142 : goal.returns-in-142
unfolding tansig tansig_bits
returns-in-142 c = keyed (at tansig) c.in-142.is

pub returns-in-143 : goal.returns-in-143
unfolding tansig tansig_bits
returns-in-143 c = keyed (at tansig) c.in-143.is

pub returns-in-144 : goal.returns-in-144
unfolding tansig tansig_bits
returns-in-144 c = keyed (at tansig) c.in-144.is

pub returns-in-145 : goal.returns-in-145
unfolding tansig tansig_bits
returns-in-145 c = keyed (at tansig) c.in-145.is

pub returns-in-146 : goal.returns-in-146
unfolding tansig tansig_bits
returns-in-146 c = keyed (at tansig) c.in-146.is

pub returns-in-147 : goal.returns-in-147
unfolding tansig tansig_bits
returns-in-147 c = keyed (at tansig) c.in-147.is

pub returns-in-148 : goal.returns-in-148
unfolding tansig tansig_bits
returns-in-148 c = keyed (at tansig) c.in-148.is

pub returns-in-149 : goal.returns-in-149
unfolding tansig tansig_bits
returns-in-149 c = keyed (at tansig) c.in-149.is

pub returns-in-150 : goal.returns-in-150
unfolding tansig tansig_bits
returns-in-150 c = keyed (at tansig) c.in-150.is

pub returns-in-151 : goal.returns-in-151
unfolding tansig tansig_bits
returns-in-151 c = keyed (at tansig) c.in-151.is

pub returns-in-152 : goal.returns-in-152
unfolding tansig tansig_bits
returns-in-152 c = keyed (at tansig) c.in-152.is

pub returns-in-153 : goal.returns-in-153
unfolding tansig tansig_bits
returns-in-153 c = keyed (at tansig) c.in-153.is

pub returns-in-154 : goal.returns-in-154
unfolding tansig tansig_bits
returns-in-154 c = keyed (at tansig) c.in-154.is

pub returns-in-155 : goal.returns-in-155
unfolding tansig tansig_bits
returns-in-155 c = keyed (at tansig) c.in-155.is

pub returns-in-156 : goal.returns-in-156
unfolding tansig tansig_bits
returns-in-156 c = keyed (at tansig) c.in-156.is

pub returns-in-157 : goal.returns-in-157
unfolding tansig tansig_bits
returns-in-157 c = keyed (at tansig) c.in-157.is

pub returns-in-158 : goal.returns-in-158
unfolding tansig tansig_bits
returns-in-158 c = keyed (at tansig) c.in-158.is

pub returns-in-159 : goal.returns-in-159
unfolding tansig tansig_bits
returns-in-159 c = keyed (at tansig) c.in-159.is

pub returns-in-160 : goal.returns-in-160
unfolding tansig tansig_bits
returns-in-160 c = keyed (at tansig) c.in-160.is

pub returns-in-161 : goal.returns-in-161
unfolding tansig tansig_bits
returns-in-161 c = keyed (at tansig) c.in-161.is

pub returns-in-162 : goal.returns-in-162
unfolding tansig tansig_bits
returns-in-162 c = keyed (at tansig) c.in-162.is

pub returns-in-163 : goal.returns-in-163
unfolding tansig tansig_bits
returns-in-163 c = keyed (at tansig) c.in-163.is

pub returns-in-164 : goal.returns-in-164
unfolding tansig tansig_bits
returns-in-164 c = keyed (at tansig) c.in-164.is

pub returns-in-165 : goal.returns-in-165
unfolding tansig tansig_bits
returns-in-165 c = keyed (at tansig) c.in-165.is

pub returns-in-166 : goal.returns-in-166
unfolding tansig tansig_bits
returns-in-166 c = keyed (at tansig) c.in-166.is

pub returns-in-167 : goal.returns-in-167
unfolding tansig tansig_bits
returns-in-167 c = keyed (at tansig) c.in-167.is

pub returns-in-168 : goal.returns-in-168
unfolding tansig tansig_bits
returns-in-168 c = keyed (at tansig) c.in-168.is

pub returns-in-169 : goal.returns-in-169
unfolding tansig tansig_bits
returns-in-169 c = keyed (at tansig) c.in-169.is

pub returns-in-170 : goal.returns-in-170
unfolding tansig tansig_bits
returns-in-170 c = keyed (at tansig) c.in-170.is

pub returns-in-171 : goal.returns-in-171
unfolding tansig tansig_bits
returns-in-171 c = keyed (at tansig) c.in-171.is

pub returns-in-172 : goal.returns-in-172
unfolding tansig tansig_bits
returns-in-172 c = keyed (at tansig) c.in-172.is

pub returns-in-173 : goal.returns-in-173
unfolding tansig tansig_bits
returns-in-173 c = keyed (at tansig) c.in-173.is

pub returns-in-174 : goal.returns-in-174
unfolding tansig tansig_bits
returns-in-174 c = keyed (at tansig) c.in-174.is

pub returns-in-175 : goal.returns-in-175
unfolding tansig tansig_bits
returns-in-175 c = keyed (at tansig) c.in-175.is

pub returns-in-176 : goal.returns-in-176
unfolding tansig tansig_bits
returns-in-176 c = keyed (at tansig) c.in-176.is

pub returns-in-177 : goal.returns-in-177
unfolding tansig tansig_bits
returns-in-177 c = keyed (at tansig) c.in-177.is

pub returns-in-178 : goal.returns-in-178
unfolding tansig tansig_bits
returns-in-178 c = keyed (at tansig) c.in-178.is

pub returns-in-179 : goal.returns-in-179
unfolding tansig tansig_bits
returns-in-179 c = keyed (at tansig) c.in-179.is

pub returns-in-180 : goal.returns-in-180
unfolding tansig tansig_bits
returns-in-180 c = keyed (at tansig) c.in-180.is

pub returns-in-181 : goal.returns-in-181
unfolding tansig tansig_bits
returns-in-181 c = keyed (at tansig) c.in-181.is

pub returns-in-182 : goal.returns-in-182
unfolding tansig tansig_bits
returns-in-182 c = keyed (at tansig) c.in-182.is

pub returns-in-183 : goal.returns-in-183
unfolding tansig tansig_bits
returns-in-183 c = keyed (at tansig) c.in-183.is

pub returns-in-184 : goal.returns-in-184
unfolding tansig tansig_bits
returns-in-184 c = keyed (at tansig) c.in-184.is

pub returns-in-185 : goal.returns-in-185
unfolding tansig tansig_bits
returns-in-185 c = keyed (at tansig) c.in-185.is

pub returns-in-186 : goal.returns-in-186
unfolding tansig tansig_bits
returns-in-186 c = keyed (at tansig) c.in-186.is

pub returns-in-187 : goal.returns-in-187
unfolding tansig tansig_bits
returns-in-187 c = keyed (at tansig) c.in-187.is

pub returns-in-188 : goal.returns-in-188
unfolding tansig tansig_bits
returns-in-188 c = keyed (at tansig) c.in-188.is

pub returns-in-189 : goal.returns-in-189
unfolding tansig tansig_bits
returns-in-189 c = keyed (at tansig) c.in-189.is

pub returns-in-190 : goal.returns-in-190
unfolding tansig tansig_bits
returns-in-190 c = keyed (at tansig) c.in-190.is

pub returns-in-191 : goal.returns-in-191
unfolding tansig tansig_bits
returns-in-191 c = keyed (at tansig) c.in-191.is

pub returns-in-192 : goal.returns-in-192
unfolding tansig tansig_bits
returns-in-192 c = keyed (at tansig) c.in-192.is

pub returns-in-193 : goal.returns-in-193
unfolding tansig tansig_bits
returns-in-193 c = keyed (at tansig) c.in-193.is

pub returns-in-194 : goal.returns-in-194
unfolding tansig tansig_bits
returns-in-194 c = keyed (at tansig) c.in-194.is

pub returns-in-195 : goal.returns-in-195
unfolding tansig tansig_bits
returns-in-195 c = keyed (at tansig) c.in-195.is

pub returns-in-196 : goal.returns-in-196
unfolding tansig tansig_bits
returns-in-196 c = keyed (at tansig) c.in-196.is

pub returns-in-197 : goal.returns-in-197
unfolding tansig tansig_bits
returns-in-197 c = keyed (at tansig) c.in-197.is

pub returns-in-198 : goal.returns-in-198
unfolding tansig tansig_bits
returns-in-198 c = keyed (at tansig) c.in-198.is

pub returns-in-199 : goal.returns-in-199
unfolding tansig tansig_bits
returns-in-199 c = keyed (at tansig) c.in-199.is

pub returns-in_default : goal.returns-in_default
unfolding tansig tansig_bits
returns-in_default c = keyed (at tansig) {k = 200} {i = c.args.i} (omega arith)
